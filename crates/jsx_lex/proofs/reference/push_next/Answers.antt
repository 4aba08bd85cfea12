use Rattle.std.proofs.Common.{◌≡◌, ◌++◌, List, ℕ, ap, sym, ◌∙◌, append_assoc, encode_utf8, Some, drop}
use Rattle.jsx_lex.specs.References.{reference_at, decoded_text}
use Rattle.jsx_lex.proofs.Decoding.{decoded-reference}
use Rattle.jsx_lex.proofs.reference.push_next.Goals as goal

pub returns-in-Some-clause-next : goal.returns-in-Some-clause-next
returns-in-Some-clause-next c =
    let found : reference_at (drop 1 c.args.rest.now) ≡ Some (c.in-Some.character, c.in-Some.length) = sym (rw c.split_at.ensures.back at c.in-Some.ensures.found) in
    let step = decoded-reference c.args.rest.now (c.in-Some.character, c.in-Some.length) c.requires c.if-rest-eq38.true found c.in-Some.ensures.within.0 in
    ap (λ (zs : List ℕ). c.args.out.now.items ++ zs) step
    ∙ (sym (append_assoc c.args.out.now.items (encode_utf8 c.in-Some.character) (decoded_text (drop c.in-Some.length c.args.rest.now)))
    ∙ ap (λ (zs : List ℕ). zs ++ decoded_text (drop c.in-Some.length c.args.rest.now)) (sym c.in_ok-push_character.ensures))
