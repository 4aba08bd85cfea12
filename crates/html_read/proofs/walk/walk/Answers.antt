use Rattle.std.proofs.Common.{◌≡◌, ◌+◌, ◌≤◌, ℕ, Option, Some, None, List, length, subst, sym, ap, arith}
use Rattle.std.proofs.lemmas.List.{length-drop}
use Rattle.html_read.specs.declared.fault.ReadKind.{ReadKind}
use Rattle.html_read.specs.declared.token.Token.{Token}
use Rattle.html_read.specs.Scanning.{IsWalked}
use Rattle.html_read.proofs.WalksLemmas.{Walks, walk_starts, walk_skip, walk_on, walk_fails, walk_mode, walk_ends}
use Rattle.html_read.proofs.walk.walk.Goals as goal

some_none : (x : ℕ × ReadKind) → ◌≡◌ {A = Option (ℕ × ReadKind)} (Some x) None → ⊥
some_none x e = cc

pub bytes-init : goal.bytes-init
bytes-init c = record {
  walks = walk_skip c.args.bytes.now c.args.start c.args.mode c.args.place c.new-tokens.result.items 0 c.args.mode c.args.start c.after.result.now c.run_len.result
      (subst (λ (t : List Token). Walks c.args.bytes.now c.args.start c.args.mode c.args.place t 0 c.args.mode c.args.start) (sym c.new-tokens.ensures.items)
      (walk_starts c.args.bytes.now c.args.start c.args.mode c.args.place))
      c.after.ensures c.run_len.ensures.within c.run_len.ensures.stays;
  within = omega (arith, c.run_len.ensures.within, ap length c.after.ensures, length-drop c.args.start c.args.bytes.now, c.requires.within);
}

pub bytes-preserved : goal.bytes-preserved
bytes-preserved c =
    let next : Walks c.args.bytes.now c.args.start c.args.mode c.args.place c.step.new.tokens.items c.in-Ok.next.from c.in-Ok.next.mode (c.bytes.i + 1) =
    walk_on c.args.bytes.now c.args.start c.args.mode c.args.place c.bytes.tokens.items c.step.new.tokens.items c.bytes.at c.in-Ok.next c.bytes.i c.in_ok-next.field-0
    c.bytes.invariant.walks c.bytes-test.true c.in_ok-next.ensures c.in-Ok.is in
    record {
      walks = subst (Walks c.args.bytes.now c.args.start c.args.mode c.args.place c.step.new.tokens.items c.in-Ok.next.from c.in-Ok.next.mode) (omega arith)
          (walk_skip c.args.bytes.now c.args.start c.args.mode c.args.place c.step.new.tokens.items c.in-Ok.next.from c.in-Ok.next.mode (c.bytes.i + 1) c.after-in-Ok.result.now c.run_len-in-Ok.result
          next c.after-in-Ok.ensures c.run_len-in-Ok.ensures.within c.run_len-in-Ok.ensures.stays);
      within = omega (arith, c.run_len-in-Ok.ensures.within, ap length c.after-in-Ok.ensures, length-drop (c.bytes.i + 1) c.args.bytes.now, c.bytes-test.true);
    }

pub returns-in-Err : goal.returns-in-Err
returns-in-Err c =
    let begun : c.bytes.at.from ≤ c.bytes.i = c.bytes.invariant.walks.begun in
    subst (IsWalked c.args.bytes.now c.args.start c.args.mode c.args.place) (sym c.outcome_of.ensures) (record {
      within = omega (arith, begun, c.bytes.invariant.within);
      mode_is = λ e n. absurd (some_none _ n);
      finds = walk_fails c.args.bytes.now c.args.start c.args.mode c.args.place c.bytes.tokens.items c.step.new.tokens.items c.bytes.at c.in-Err.kind c.bytes.i c.in_ok-next.field-0
          c.bytes.invariant.walks c.bytes-test.true c.in_ok-next.ensures c.in-Err.is;
    })

pub returns : goal.returns
returns c =
    let begun : c.bytes.at.from ≤ c.bytes.i = c.bytes.invariant.walks.begun in
    let past : length c.args.bytes.now ≤ c.bytes.i = omega (arith, c.bytes-test.false) in
    subst (IsWalked c.args.bytes.now c.args.start c.args.mode c.args.place) (sym c.outcome_of-2.ensures) (record {
      within = omega (arith, begun, c.bytes.invariant.within);
      mode_is = λ e n. walk_mode c.args.bytes.now c.args.start c.args.mode c.args.place c.bytes.tokens.items c.bytes.at.from c.bytes.at.mode c.bytes.i c.bytes.invariant.walks past e;
      finds = walk_ends c.args.bytes.now c.args.start c.args.mode c.args.place c.bytes.tokens.items c.bytes.at.from c.bytes.at.mode c.bytes.i c.bytes.invariant.walks past;
    })
