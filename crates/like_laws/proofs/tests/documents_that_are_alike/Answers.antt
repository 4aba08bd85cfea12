use Rattle.std.proofs.Common.{◌≡◌, ℕ, true, false, List, [], ◌∷◌, codes, refl, arith}
use Rattle.dom_forest.specs.Edits.{digest_attribute}
use Rattle.dom_forest.specs.Forest.{empty}
use Rattle.dom_forest.specs.declared.node.Mark.TheVariants.{Client, Complete, Pending}
use Rattle.dom_forest.specs.declared.node.NewNode.TheVariants.{Comment, Element, Text}
use Rattle.document_machine.specs.Views.{element, end, text}
use Rattle.page_laws.specs.Pages.{id_attribute}
use Rattle.like_laws.specs.Alike.{both, ends, left}
use Rattle.like_laws.specs.Examples.{comment, digest_template, paragraph, digest_paragraph, plain_template, text_before, space, template_of}
use Rattle.like_laws.proofs.FoundLemmas.{count_after-alike, ends_after-alike}
use Rattle.like_laws.proofs.LikeViewsLemmas.{same_views}
use Rattle.like_laws.proofs.tests.documents_that_are_alike.Goals as goal

two_texts : (a b ab : List ℕ) → text a (text b end) ≡ text ab end → ⊥
two_texts a b ab e = cc

two_paragraphs : element (codes "p") [] end end ≡ element (codes "p") (digest_attribute (codes "e") ∷ []) end end → ⊥
two_paragraphs e = cc

pub returns : goal.returns
returns c = record {
  texts =
      both false false 3 3 (Text (codes "a")) (Text (codes "a")) empty empty (space (text_before (codes "b") empty)) (text_before (codes "b") empty) refl (λ id h. refl) (ends false)
      (left false false 2 (text_before (codes "b") empty) (text_before (codes "b") empty)
      (both false false 3 3 (Text (codes "b")) (Text (codes "b")) empty empty empty empty refl (λ id h. refl) (ends false) (ends false)));
  joined = λ r. two_texts (codes "a") (codes "b") (codes "ab") (same_views [] (text_before (codes "a") (text_before (codes "b") empty)) (text_before (codes "ab") empty) r);
  pending = λ r. omega (arith, count_after-alike (codes "B:1") false false (comment Pending (space (template_of (codes "B:1") empty))) (comment Pending (template_of (codes "B:1") empty)) r);
  complete =
      both false false 1 1 (Comment Complete) (Comment Complete) empty empty (space (template_of (codes "B:1") empty)) (template_of (codes "B:1") empty) refl (λ id h. refl) (ends false)
      (left false false 2 (template_of (codes "B:1") empty) (template_of (codes "B:1") empty)
      (both false false 4 4 (Element (codes "template") (id_attribute (codes "B:1") ∷ [])) (Element (codes "template") (id_attribute (codes "B:1") ∷ [])) empty empty empty empty refl (λ id h. refl)
      (ends false) (ends false)));
  client =
      both false false 1 1 (Comment Client) (Comment Client) empty empty (space (plain_template empty)) (digest_template empty) refl (λ id h. refl) (ends false)
      (left true true 2 (plain_template empty) (digest_template empty)
      (both false true 5 6 (Element (codes "template") []) (Element (codes "template") (digest_attribute (codes "e") ∷ [])) empty empty empty empty refl
      (λ id h. absurd (let z : false ≡ true = h in cc)) (ends false) (ends false)));
  at_end = λ r. (let z : false ≡ true = ends_after-alike false false (comment Client (space empty)) (comment Client empty) r in cc);
  other_digest = λ r. two_paragraphs (same_views [] paragraph digest_paragraph r);
}
