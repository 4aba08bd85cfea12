use Rattle.std.proofs.Common.{◌≡◌, ◌+◌, ◌-◌, ◌≤◌, ◌<◌, min, length, take, drop, List, ℕ, Option, Result, Err, sym, ◌∙◌, ap, subst, arith, length-take}
use Rattle.std.proofs.lemmas.List.{take-take, take_min}
use Rattle.std.proofs.lemmas.Result.{err_from_is_err_and}
use Rattle.std.proofs.Math.Seq.{take-add}
use Rattle.std.proofs.KnownBytes.{Appends-trans}
use Rattle.std.specs.Io.KnownBytes.{Appends}
use Rattle.fizz_outside.specs.Sinks.{Takes}
use Rattle.fizz_outside.specs.declared.sink.SinkRefused.{SinkRefused}
use Rattle.inline_run.proofs.sending.send.Goals as goal

-- a front of the rest was taken after the front up to here
more_taken : (a b c : Option (List ℕ)) (bytes : List ℕ) (at end : ℕ) → at ≤ end → Appends a b (take at bytes)
    → Appends b c (take (end - at) (drop at bytes)) → Appends a c (take end bytes)
more_taken a b c bytes at end more front next =
    let whole : at + (end - at) ≡ end = omega (arith, more) in
    subst (λ n. Appends a c (take n bytes)) whole
    (subst (λ (xs : List ℕ). Appends a c xs) (sym (take-add at (end - at) bytes))
    (Appends-trans a b c (take at bytes) (take (end - at) (drop at bytes)) front next))

-- the front that was taken of a front
part_taken : (a b c : Option (List ℕ)) (bytes : List ℕ) (at k n : ℕ) → Appends a b (take at bytes)
    → Appends b c (take n (take k (drop at bytes))) → (m : ℕ) × Appends a c (take m bytes)
part_taken a b c bytes at k n front next = (at + min n (length (take k (drop at bytes))), joined)
  where
    piece : List ℕ
    piece = take k (drop at bytes)

    size : ℕ
    size = min n (length piece)

    short : size ≤ k
    short = omega (arith, length-take k (drop at bytes))

    same : take n piece ≡ take size (drop at bytes)
    same = sym (take_min n piece) ∙ take-take size k (drop at bytes) short

    joined : Appends a c (take (at + size) bytes)
    joined = subst (λ (xs : List ℕ). Appends a c xs) (sym (take-add at size bytes))
        (Appends-trans a b c (take at bytes) (take size (drop at bytes)) front
        (subst (λ (xs : List ℕ). Appends b c xs) same next))

pub pieces-preserved : goal.pieces-preserved
pieces-preserved g c = record {
  within = omega (arith, c.min-end.ensures);
  taken = more_taken _ _ _ c.args.bytes.now c.pieces.at c.min-end.result (omega (arith, c.min-end.ensures, c.saturating_add.ensures, c.pieces-test.true))
      c.pieces.invariant.taken c.in_ok-write_all.ensures.bytes;
  later = omega (arith, c.pieces.invariant.later, c.in_ok-write_all.ensures.cause.later);
}

takes_err : {T : Type 0} (a c : Option (List ℕ)) (bytes : List ℕ) (result : Result T SinkRefused) (e : SinkRefused)
    → result ≡ Err e → (m : ℕ) × Appends a c (take m bytes) → Takes a c bytes result
takes_err a c bytes result e is took = subst (λ r. Takes a c bytes r) (sym is) took

pub returns-in_err-write_all-clause-bytes : goal.returns-in_err-write_all-clause-bytes
returns-in_err-write_all-clause-bytes g c =
    let p = err_from_is_err_and c.from_residual.result c.from_residual.ensures.1 in
    let wrote = c.in_err-write_all.ensures.bytes in
    takes_err _ _ c.args.bytes.now c.from_residual.result p.0 p.1
    (part_taken _ _ _ c.args.bytes.now c.pieces.at (c.min-end.result - c.pieces.at) wrote.0 c.pieces.invariant.taken wrote.1)
