use Rattle.std.proofs.Common.{◌≡◌, refl}
use Rattle.fizz_cli.specs.Calls.{IsClapText}
use Rattle.fizz_cli.specs.Notes.{prefix_note}
use Rattle.fizz_cli.proofs.CallsLemmas.{words_answered, words_refused, words_without_memory}
use Rattle.fizz_cli.proofs.WordsLemmas.{asking_words, long_words, meant_words, wrong_words}
use Rattle.fizz_cli.proofs.top.fizz.Goals as goal

pub returns-in-Ok : goal.returns-in-Ok
returns-in-Ok g c =
    let meant = c.in-Ok.ensures.meant in
    rw (meant_words c.args.words.now _ meant.0 meant.1) c.fizz_inline.ensures

pub returns-in-Err-Usage : goal.returns-in-Err-Usage
returns-in-Err-Usage g c =
    let found = rw c.in-Err-Usage.field-0-is at c.in-Err-Usage.ensures.meant in
    rw (wrong_words c.args.words.now (c.laws_of_words.ensures.apart c.args.words.now) found)
    (words_refused IsClapText _ _ _ c.in-Err-Usage.text _ tt refl refl (rw (c.as_bytes.ensures.value, c.in-Err-Usage.text-is) at c.send.ensures))

pub returns-in-Err-Told : goal.returns-in-Err-Told
returns-in-Err-Told g c =
    let found = rw c.in-Err-Told.field-0-is at c.in-Err-Told.ensures.meant in
    rw (asking_words c.args.words.now found)
    (words_answered _ _ _ c.in-Err-Told.text _ refl refl (rw (c.as_bytes-in-Err-Told.ensures.value, c.in-Err-Told.text-is) at c.send-in-Err-Told.ensures))

pub returns-in-Err-PrefixTooLong : goal.returns-in-Err-PrefixTooLong
returns-in-Err-PrefixTooLong g c =
    let found = rw c.in-Err-PrefixTooLong.field-0-is at c.in-Err-PrefixTooLong.ensures.meant in
    rw (long_words c.args.words.now found.0 found.1 (rw found.2 at found.3))
    (words_refused (λ note. note ≡ prefix_note) _ _ _ prefix_note _ refl refl refl c.send-in-Err-PrefixTooLong.ensures)

pub returns-in-Err-OutOfMemory : goal.returns-in-Err-OutOfMemory
returns-in-Err-OutOfMemory g c = words_without_memory _ _ _ _ refl refl refl
