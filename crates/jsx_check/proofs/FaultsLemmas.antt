-- A file has one fault at most.
use Rattle.std.proofs.Common.{◌≡◌, ℕ, ◌==◌, if◌then◌else◌, ◌<◌, ◌≤◌, ◌⊎◌, inl, inr, length, refl, sym, ◌∙◌, ap, arith}
use Rattle.jsx_syntax.specs.Rules.{HasApp, IsApp, IsSound, app_depth, most_components, most_depth}
use Rattle.jsx_syntax.specs.declared.file.File.{File}
use Rattle.jsx_syntax.specs.declared.rule.Rule.{Rule}
use Rattle.jsx_syntax.specs.declared.rule.Rule.TheVariants as rule
use Rattle.jsx_check.specs.Checks.{IsFaultOf, IsFirstBroken, IsNoLater, fault_by, rank_of, told_as}
use Rattle.jsx_check.specs.declared.fault.CheckFault.{CheckFault}
use Rattle.jsx_check.specs.declared.fault.CheckFault.TheVariants.{TooManyComponents, UnknownName, UnknownElement, UnknownAttribute, TwiceDefined, UsedBeforeDefined, FallbackNotPlain, NoApp, TooDeep, OutOfMemory}

-- the faults by what they are told for
data Cause (file : File) (f : CheckFault) : Type 0 where
  many : most_components < length file.components → f ≡ TooManyComponents (told_as (length file.components)) → Cause file f
  broken : (r : Rule) (place : ℕ) → length file.components ≤ most_components → IsFirstBroken file r place → f ≡ fault_by r place → Cause file f
  no_app : length file.components ≤ most_components → IsSound file → (HasApp file → ⊥) → f ≡ NoApp → Cause file f
  deep : length file.components ≤ most_components → IsSound file → HasApp file → most_depth < app_depth file → f ≡ TooDeep (told_as (app_depth file)) → Cause file f
  memory : f ≡ OutOfMemory → Cause file f

cause : (file : File) (f : CheckFault) → IsFaultOf file f → Cause file f
cause file (TooManyComponents count) h = many h.0 (ap TooManyComponents h.1)
cause file (UnknownName place) h = broken rule.UnknownName place h.0 h.1 refl
cause file (UnknownElement place) h = broken rule.UnknownElement place h.0 h.1 refl
cause file (UnknownAttribute place) h = broken rule.UnknownAttribute place h.0 h.1 refl
cause file (TwiceDefined place) h = broken rule.TwiceDefined place h.0 h.1 refl
cause file (UsedBeforeDefined place) h = broken rule.UsedBeforeDefined place h.0 h.1 refl
cause file (FallbackNotPlain place) h = broken rule.FallbackNotPlain place h.0 h.1 refl
cause file NoApp h = no_app h.0 h.1 h.2 refl
cause file (TooDeep depth) h = deep h.0 h.1 h.2 h.3 (ap TooDeep h.4)
cause file OutOfMemory h = memory refl

-- Two rules of one rank are one rule.
abbrev rule_at : ℕ → Rule
rule_at n =
    if n == 0 then rule.UnknownName else if n == 1 then rule.UnknownElement else if n == 2 then rule.UnknownAttribute
    else if n == 3 then rule.TwiceDefined else if n == 4 then rule.UsedBeforeDefined else rule.FallbackNotPlain

rule_at-rank : (r : Rule) → rule_at (rank_of r) ≡ r
rule_at-rank rule.UnknownName = refl
rule_at-rank rule.UnknownElement = refl
rule_at-rank rule.UnknownAttribute = refl
rule_at-rank rule.TwiceDefined = refl
rule_at-rank rule.UsedBeforeDefined = refl
rule_at-rank rule.FallbackNotPlain = refl

one_rule : (r s : Rule) → rank_of r ≡ rank_of s → r ≡ s
one_rule r s e = sym (rule_at-rank r) ∙ (ap rule_at e ∙ rule_at-rank s)

one_place : (r s : Rule) (here there : ℕ) → IsNoLater r here s there → IsNoLater s there r here → (here ≡ there) × (rank_of r ≡ rank_of s)
one_place r s here there (inl p) (inl q) = absurd (omega (arith, p, q))
one_place r s here there (inl p) (inr q) = absurd (omega (arith, p, q.0))
one_place r s here there (inr p) (inl q) = absurd (omega (arith, p.0, q))
one_place r s here there (inr p) (inr q) = (p.0, omega (arith, p.1, q.1))

one_first : (file : File) (r s : Rule) (here there : ℕ) → IsFirstBroken file r here → IsFirstBroken file s there → fault_by r here ≡ fault_by s there
one_first file r s here there a b =
    let e : (here ≡ there) × (rank_of r ≡ rank_of s) = one_place r s here there (a.first s there b.broken) (b.first r here a.broken) in
    ap (fault_by r) e.0 ∙ ap (λ (q : Rule). fault_by q there) (one_rule r s e.1)

one_cause : (file : File) (a b : CheckFault) → Cause file a → Cause file b → (a ≡ OutOfMemory) ⊎ (b ≡ OutOfMemory) ⊎ (a ≡ b)
one_cause file a b (memory e) k = inl e
one_cause file a b k (memory e) = inr (inl e)
one_cause file a b (many l e) (many m f) = inr (inr (e ∙ sym f))
one_cause file a b (many l e) (broken r p m h f) = absurd (omega (arith, l, m))
one_cause file a b (many l e) (no_app m h n f) = absurd (omega (arith, l, m))
one_cause file a b (many l e) (deep m h n d f) = absurd (omega (arith, l, m))
one_cause file a b (broken r p l h e) (many m f) = absurd (omega (arith, l, m))
one_cause file a b (broken r p l h e) (broken s q m k f) = inr (inr (e ∙ (one_first file r s p q h k ∙ sym f)))
one_cause file a b (broken r p l h e) (no_app m k n f) = absurd (k r p h.broken)
one_cause file a b (broken r p l h e) (deep m k n d f) = absurd (k r p h.broken)
one_cause file a b (no_app l h n e) (many m f) = absurd (omega (arith, l, m))
one_cause file a b (no_app l h n e) (broken s q m k f) = absurd (h s q k.broken)
one_cause file a b (no_app l h n e) (no_app m k o f) = inr (inr (e ∙ sym f))
one_cause file a b (no_app l h n e) (deep m k o d f) = absurd (n o)
one_cause file a b (deep l h n c e) (many m f) = absurd (omega (arith, l, m))
one_cause file a b (deep l h n c e) (broken s q m k f) = absurd (h s q k.broken)
one_cause file a b (deep l h n c e) (no_app m k o f) = absurd (o n)
one_cause file a b (deep l h n c e) (deep m k o d f) = inr (inr (e ∙ sym f))

pub one_fault : (file : File) (a b : CheckFault) → IsFaultOf file a → IsFaultOf file b → (a ≡ OutOfMemory) ⊎ (b ≡ OutOfMemory) ⊎ (a ≡ b)
one_fault file a b h k = one_cause file a b (cause file a h) (cause file b k)

no_cause : (file : File) (a : CheckFault) → IsApp file → Cause file a → a ≡ OutOfMemory
no_cause file a app (memory e) = e
no_cause file a app (many l e) = absurd (omega (arith, l, app.few))
no_cause file a app (broken r p l h e) = absurd (app.sound r p h.broken)
no_cause file a app (no_app l h n e) = absurd (n app.app)
no_cause file a app (deep l h n d e) = absurd (omega (arith, d, app.shallow))

pub no_fault : (file : File) (a : CheckFault) → IsApp file → IsFaultOf file a → a ≡ OutOfMemory
no_fault file a app h = no_cause file a app (cause file a h)
