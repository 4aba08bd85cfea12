use Rattle.std.proofs.Common.{rules, arith, ◌≡◌, sym, subst, IsUtf8}
use Rattle.std.proofs.lemmas.Grind.{common_steps}
use Rattle.jsx_lex.specs.Meanings.{tag_text_of}
use Rattle.jsx_lex.proofs.DecodedTexts.{tag_utf8}
use Rattle.jsx_lex.proofs.meaning.decode_tag_string.Goals as goal

pub returns-clause-utf8 : goal.returns-clause-utf8
returns-clause-utf8 c =
    let e : c.push_decoded.new.out.items ≡ tag_text_of c.args.word.now = first_of (search rules, grind (arith, common_steps)) in
    λ u. subst IsUtf8 (sym e) (tag_utf8 c.args.word.now c.requires u)
