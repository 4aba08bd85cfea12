use Rattle.std.proofs.Common.{rules, arith, ◌≡◌, ◌+◌, ◌-◌, length, take, drop, List, ℕ, sym, ◌∙◌, ap, subst, Option, length-drop}
use Rattle.std.proofs.lemmas.List.{take_rest}
use Rattle.std.proofs.Math.Seq.{take-add}
use Rattle.std.proofs.KnownBytes.{Appends-trans}
use Rattle.std.specs.Io.KnownBytes.{Appends}
use Rattle.fizz_outside.proofs.std_sink.StdSinkSink.write_all.Goals as goal

-- a front of the rest was taken after the front up to here
more_taken : (a b c : Option (List ℕ)) (bytes : List ℕ) (at n : ℕ) →
    Appends a b (take at bytes) → Appends b c (take n (take (length bytes - at) (drop at bytes))) → Appends a c (take (at + n) bytes)
more_taken a b c bytes at n front next =
    subst (λ (xs : List ℕ). Appends a c xs) (sym (take-add at n bytes))
    (Appends-trans a b c (take at bytes) (take n (drop at bytes)) front
    (subst (λ (xs : List ℕ). Appends b c (take n xs)) (take_rest bytes at) next))

pub pieces-preserved : goal.pieces-preserved
pieces-preserved g c =
    let step = c.in-Some.ensures.taken in
    let whole : length (take (length c.args.bytes.now - c.pieces.at) (drop c.pieces.at c.args.bytes.now)) ≡ length c.args.bytes.now - c.pieces.at =
    ap length (take_rest c.args.bytes.now c.pieces.at) ∙ length-drop c.pieces.at c.args.bytes.now in
    record {
      within = omega (arith, step.1);
      taken = more_taken _ _ _ c.args.bytes.now c.pieces.at c.in-Some.n c.pieces.invariant.taken step.2;
      quiet = search rules;
    }
