use Rattle.std.proofs.Common.{◌≡◌, ℕ, ◌+◌, List, ap, sym, ◌∙◌, arith, drop}
use Rattle.std.proofs.lemmas.List.{drop-drop}
use Rattle.jsx_lex.proofs.Cleaning.{clean-first, clean-last, clean-more}
use Rattle.jsx_lex.proofs.clean.clean.Goals as goal

pub lines-init : goal.lines-init
lines-init c = clean-first c.args.text.now c.new-out.result.items c.new-out.ensures.items

pub returns-in_default : goal.returns-in_default
returns-in_default c =
    let none = c.in_default.ensures.cases in
    let back = c.split_at.ensures.back_len in
    let line = rw c.split_at.ensures.front at c.line_start-line.ensures in
    clean-last c.args.text.now c.lines.out.items c.lines.rest.now c.push_line.new.out.items c.line_start-line.result.now c.lines.is_first c.run_len.result c.lines.invariant c.run_len.ensures.len (omega arith) line c.in_ok-push_line.ensures

pub lines-preserved : goal.lines-preserved
lines-preserved c =
    let some = c.in-Some.ensures.cases in
    let back = c.split_at.ensures.back_len in
    let line = rw c.split_at.ensures.front at c.line_start-line.ensures in
    let rest : c.in-Some.more.now ≡ drop (c.run_len.result + 1) c.lines.rest.now =
    ap (λ (zs : List ℕ). drop 1 zs) (sym some.0 ∙ c.split_at.ensures.back) ∙ drop-drop 1 c.run_len.result c.lines.rest.now in
    let written = rw c.trim_end.ensures at c.in_ok-push_line-2.ensures in
    clean-more c.args.text.now c.lines.out.items c.lines.rest.now c.push_line-in-lines.new.out.items c.line_start-line.result.now c.in-Some.more.now c.lines.is_first c.run_len.result c.lines.invariant c.run_len.ensures.len (let l = some.1 in omega arith) rest line written
