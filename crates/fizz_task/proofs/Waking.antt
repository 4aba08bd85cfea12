-- The tasks that wait for a resource are found, put in order and woken.
use Rattle.std.proofs.Common.{◌≡◌, ◌⊎◌, ℕ, suc, ◌+◌, ◌≤◌, ◌<◌, Bool, true, false, cond, eqb, Option, Some, List, [], ◌∷◌, ◌++◌, length, map, filter, get_or, slice_set, inl, inr, refl, sym, ap, ◌∙◌, subst, append_assoc, arith}
use Rattle.std.specs.Str.{bytes_eq}
use Rattle.std.specs.List.{sum_by}
use Rattle.std.specs.List.Sorted.{IsNonDecreasing, IsPermutation}
use Rattle.std.proofs.lemmas.Bool.{cases_Bool, cases_eq, cases_lt, cases_order, cond-false, cond-true, false≢true}
use Rattle.std.proofs.lemmas.List.{append-nil, ext_get_or, length-append, get_or-set_other, get_or-set_same, length-map, length-set, map-set, set-get_or}
use Rattle.std.proofs.lemmas.List.Elements.{filter-append}
use Rattle.std.proofs.lemmas.List.Sums.{sum_by-cons}
use Rattle.std.proofs.lemmas.Slice.Eq.{bytes_eq-Decides}
use Rattle.std.proofs.lemmas.List.Sorted.{sum_by-IsPermutation}
use Rattle.id_lists.specs.Lists.{AreLists, Lists, first_of, list_at, next_of, times as times_in}
use Rattle.id_lists.specs.Lists.{one as one_in}
use Rattle.id_lists.proofs.Counts.{few_ids, next_after, times_at}
use Rattle.id_lists.proofs.Chains.{IsSplit, first_stands, split_at_id}
use Rattle.fizz_task.specs.declared.state.State.{State}
use Rattle.fizz_task.specs.declared.state.State.TheVariants.{Gone, Runnable, Claimed, Waiting}
use Rattle.fizz_task.specs.Board.{Board, numbers_from, one, state_at, times, waiters, waits_for}
use Rattle.fizz_task.specs.Calls.{settled, woken, woken_one}
use Rattle.fizz_task.specs.Indexed.{DiffersAt, IsFinding, IsGuide, IsIndexed, IsWaking, name_list, name_place, name_places, rest}
use Rattle.fizz_task.proofs.Lists.{count-length, one_other, one_same, times-filter}
use Rattle.fizz_task.proofs.Settling.{at_settled, length-numbers, numbers_below, waiters_at}
use Rattle.fizz_task.proofs.Single.{waits_inside}
use Rattle.fizz_task.proofs.Views.{board_same, boarded}
use Rattle.fizz_task.proofs.Walks.{back_stays, rest_all, rest_is, rest_stays}

-- both crates count alike
same_times : (n : ℕ) (ms : List ℕ) → times n ms ≡ times_in n ms
same_times n [] = refl
same_times n (m ∷ ms) = omega (arith, same_one (eqb n m), same_times n ms)
  where
    same_one : (b : Bool) → one b ≡ one_in b
    same_one true = refl
    same_one false = refl

times_sum : (n : ℕ) (ms : List ℕ) → times n ms ≡ sum_by (λ m. one (eqb n m)) ms
times_sum n [] = refl
times_sum n (m ∷ ms) = ap (λ k. one (eqb n m) + k) (times_sum n ms) ∙ sym (sum_by-cons (λ k. one (eqb n k)) m ms)

-- a list in ascending order
abbrev pub Ascends : List ℕ → Type 0
Ascends [] = Unit {0}
Ascends (n ∷ ns) = ((m : ℕ) → 0 < times m ns → n ≤ m) × Ascends ns

-- there is one order of what stands in a list
pub one_order : (ms ns : List ℕ) → Ascends ms → Ascends ns → ((k : ℕ) → times k ms ≡ times k ns) → ms ≡ ns
one_order [] [] up up' same = refl
one_order [] (n ∷ ns) up up' same = absurd (omega (arith, same n, one_same n))
one_order (m ∷ ms) [] up up' same = absurd (omega (arith, same m, one_same m))
one_order (m ∷ ms) (n ∷ ns) up up' same =
    let heads : m ≡ n = equal (cases_order m n) in
    ap (λ k. k ∷ ms) heads ∙ ap (λ (l : List ℕ). n ∷ l)
    (one_order ms ns up.1 up'.1 (λ k. omega (arith, same k, ap (λ j. one (eqb k j)) heads)))
  where
    equal : (m ≡ n) ⊎ ((m < n) ⊎ (n < m)) → m ≡ n
    equal (inl e) = e
    equal (inr (inl below)) = absurd (omega (arith, below, up'.0 m (omega (arith, same m, one_same m, one_other m n (λ e. omega (arith, below, e))))))
    equal (inr (inr above)) = absurd (omega (arith, above, up.0 n (omega (arith, same n, one_same n, one_other n m (λ e. omega (arith, above, e))))))

-- a list whose numbers never fall is in ascending order
pub ascends_from : (ns : List ℕ) → ((i j d : ℕ) → i ≤ j → j < length ns → get_or ns i d ≤ get_or ns j d) → Ascends ns
ascends_from [] up = tt
ascends_from (n ∷ ns) up = (
  λ m stands. first_least m ns stands (λ j inside. up 0 (suc j) 0 (omega arith) (omega (arith, inside))),
  ascends_from ns (λ i j d before inside. up (suc i) (suc j) d (omega (arith, before)) (omega (arith, inside))),
)
  where
    first_least : (m : ℕ) (ms : List ℕ) → 0 < times m ms → ((j : ℕ) → j < length ms → n ≤ get_or ms j 0) → n ≤ m
    first_least m [] stands least = absurd (omega (arith, stands))
    first_least m (k ∷ ms) stands least = elim (cases_eq m k) [
      | inl same ↦ omega (arith, same, least 0 (omega arith))
      | inr other ↦ first_least m ms (omega (arith, stands, one_other m k other)) (λ j inside. least (suc j) (omega (arith, inside)))
    ]

module _ {W : Type 0} where
  numbers_ascend : (test : State W → Bool) (first : ℕ) (states : List (State W)) → Ascends (numbers_from test first states)
  numbers_ascend test first [] = tt
  numbers_ascend test first (state ∷ states) = elim (cases_Bool (test state)) [
    | inl passes ↦ subst Ascends (sym (cond-true (test state) _ _ passes)) (
      λ m stands. elim (cases_lt m first) [
        | inl below ↦ absurd (omega (arith, stands, numbers_below test (first + 1) states m (omega (arith, below))))
        | inr above ↦ above
      ],
      numbers_ascend test (first + 1) states,
    )
    | inr fails ↦ subst Ascends (sym (cond-false (test state) _ _ fails)) (numbers_ascend test (first + 1) states)
  ]

  placed_name : (count : ℕ) (name : List ℕ) (s : State W) → waits_for name s ≡ true → name_place count s ≡ Some (name_list count name)
  placed_name count name Gone waits = absurd (false≢true waits)
  placed_name count name (Runnable payload) waits = absurd (false≢true waits)
  placed_name count name (Claimed claim) waits = absurd (false≢true waits)
  placed_name count name (Waiting resource payload) waits =
      ap (λ (text : List ℕ). Some (name_list count text)) (sym ((bytes_eq-Decides name resource).0 waits))

  -- what is found of the list of a name, in ascending order, are the tasks that wait for it
  pub found_waiters : (name : List ℕ) (board : Board W) (all : Lists) (list : ℕ) (sorted : List ℕ) → AreLists all
      → IsGuide (length board.states) (name_places board (length all.lists)) all.lists → list ≡ name_list (length all.lists) name
      → IsPermutation (filter (λ n. waits_for name (state_at board.states n)) (list_at all.lists list)) sorted → IsNonDecreasing sorted
      → sorted ≡ waiters name board.states
  found_waiters name board all list sorted lists guide own moves up =
      one_order sorted (waiters name board.states) (ascends_from sorted (λ i j d before inside. up i j d before inside))
      (numbers_ascend (waits_for name) 0 board.states) (λ k. counted k ∙ sym (waiters_at name board.states k))
    where
      test : ℕ → Bool
      test n = waits_for name (state_at board.states n)

      in_list : (k : ℕ) → test k ≡ true → times k (list_at all.lists list) ≡ 1
      in_list k waits = omega (
        arith,
        same_times k (list_at all.lists list),
        guide k list (waits_inside name board.states k waits)
            (placed_name (length all.lists) name (state_at board.states k) waits ∙ ap Some (sym own)),
        times_at k all.lists list,
        lists.once k,
      )

      counted : (k : ℕ) → times k sorted ≡ one (waits_for name (state_at board.states k))
      counted k = times_sum k sorted ∙ sum_by-IsPermutation (λ m. one (eqb k m)) _ sorted moves
          ∙ sym (times_sum k (filter test (list_at all.lists list))) ∙ times-filter test k (list_at all.lists list)
          ∙ elim (cases_Bool (test k)) [
            | inl waits ↦ cond-true (test k) _ 0 waits ∙ in_list k waits ∙ sym (ap one waits)
            | inr asleep ↦ cond-false (test k) _ 0 asleep ∙ sym (ap one asleep)
          ]

  -- one that is woken twice
  woken_twice : (name : List ℕ) (s : State W) → woken name (woken name s) ≡ woken name s
  woken_twice name Gone = refl
  woken_twice name (Runnable payload) = refl
  woken_twice name (Claimed claim) = refl
  woken_twice name (Waiting resource payload) = by_test (bytes_eq name resource) refl
    where
      by_test : (b : Bool) → bytes_eq name resource ≡ b
          → woken name (cond b (Runnable payload) (Waiting resource payload)) ≡ cond b (Runnable payload) (Waiting resource payload)
      by_test true is = refl
      by_test false is = cond-false (bytes_eq name resource) (Runnable payload) (Waiting resource payload) is

  -- one that was woken waits no more
  woken_sleeps_not : (name : List ℕ) (s : State W) → waits_for name s ≡ true → waits_for name (woken name s) ≡ false
  woken_sleeps_not name Gone waits = refl
  woken_sleeps_not name (Runnable payload) waits = refl
  woken_sleeps_not name (Claimed claim) waits = refl
  woken_sleeps_not name (Waiting resource payload) waits =
      ap (waits_for name) (cond-true (bytes_eq name resource) (Runnable payload) (Waiting resource payload) waits)

  not_woken : (name : List ℕ) (s : State W) → waits_for name s ≡ false → woken name s ≡ s
  not_woken name Gone asleep = refl
  not_woken name (Runnable payload) asleep = refl
  not_woken name (Claimed claim) asleep = refl
  not_woken name (Waiting resource payload) asleep = cond-false (bytes_eq name resource) (Runnable payload) (Waiting resource payload) asleep

  -- all are woken, whether one of them was woken before or not
  woken_set : (name : List ℕ) (states : List (State W)) (k : ℕ)
      → map (woken name) (slice_set states k (woken name (state_at states k))) ≡ map (woken name) states
  woken_set name states k = map-set (woken name) states k (woken name (state_at states k))
      ∙ ap (slice_set (map (woken name) states) k) (woken_twice name (state_at states k) ∙ sym (at_settled name states k))
      ∙ set-get_or (map (woken name) states) k Gone

  pub waking_first : (name : List ℕ) (board : Board W) (o n : Lists) (tasks : List ℕ) → IsIndexed board o n → tasks ≡ waiters name board.states
      → IsWaking name board board o n tasks tasks
  waking_first name board o n tasks indexed is = record {
    indexed = indexed;
    waits = λ k. ap (times k) is ∙ waiters_at name board.states k;
    states = refl;
    queue = refl;
    owners = refl;
    claims = refl;
    spare = refl;
  }

  module _ (name : List ℕ) (start now : Board W) (o n : Lists) (k : ℕ) (later tasks : List ℕ) (w : IsWaking name start now o n (k ∷ later) tasks) where
    one_at_most : (b : Bool) → one b ≤ 1
    one_at_most true = omega arith
    one_at_most false = omega arith

    pub waking_waits : waits_for name (state_at now.states k) ≡ true
    waking_waits = elim (cases_Bool (waits_for name (state_at now.states k))) [
      | inl waits ↦ waits
      | inr asleep ↦ absurd (omega (arith, w.waits k, ap one asleep, one_same k))
    ]

    inside : k < length now.states
    inside = waits_inside name now.states k waking_waits

    pub waking_differs : (new : Board W) → new ≡ woken_one name k now → DiffersAt k now new
    waking_differs new is = subst (DiffersAt k now) (sym is) (record {
      owners = refl;
      spare = refl;
      made = length-set now.states k (woken name (state_at now.states k));
      states = λ j other. get_or-set_other now.states k j (woken name (state_at now.states k)) Gone other;
    })

    pub waking_inside : (new : Board W) → new ≡ woken_one name k now → k < length new.states
    waking_inside new is = omega (arith, inside, (waking_differs new is).made)

    pub waking_more : (new : Board W) (o' n' : Lists) → new ≡ woken_one name k now → IsIndexed new o' n' → IsWaking name start new o' n' later tasks
    waking_more new o' n' is indexed = record {
      indexed = indexed;
      waits = λ j. elim (cases_eq j k) [
        | inl same ↦ omega (
          arith,
          w.waits j,
          one_at_most (waits_for name (state_at now.states j)),
          one_same_at j same,
          ap one (ap (λ (b : Board W). waits_for name (state_at b.states j)) is ∙ ap (λ i. waits_for name (state_at (slice_set now.states k (woken name (state_at now.states k))) i)) same
              ∙ ap (waits_for name) (get_or-set_same now.states k (woken name (state_at now.states k)) Gone inside)
              ∙ woken_sleeps_not name (state_at now.states k) waking_waits),
        )
        | inr other ↦ omega (
          arith,
          w.waits j,
          one_other j k other,
          ap (λ (s : State W). one (waits_for name s)) ((waking_differs new is).states j other),
        )
      ];
      states = ap (λ (b : Board W). map (woken name) b.states) is ∙ woken_set name now.states k ∙ w.states;
      queue = ap (λ (b : Board W). b.queue ++ later) is ∙ append_assoc now.queue (k ∷ []) later ∙ w.queue;
      owners = ap (λ (b : Board W). b.owners) is ∙ w.owners;
      claims = ap (λ (b : Board W). b.claims) is ∙ w.claims;
      spare = ap (λ (b : Board W). b.spare) is ∙ w.spare;
    }
      where
        one_same_at : (j : ℕ) → j ≡ k → one (eqb j k) ≡ 1
        one_same_at j same = ap (λ i. one (eqb i k)) same ∙ one_same k

  board_is : {os os' : List (Option ℕ)} {ss ss' : List (State W)} {qs qs' : List ℕ} {cs cs' sp sp' : ℕ}
      → os ≡ os' → ss ≡ ss' → qs ≡ qs' → cs ≡ cs' → sp ≡ sp' → boarded os ss qs cs sp ≡ boarded os' ss' qs' cs' sp'
  board_is eo es eq ec ep = rw (eo, es, eq, ec, ep) refl

  pub waking_done : (name : List ℕ) (start now : Board W) (o n : Lists) (tasks : List ℕ) → IsWaking name start now o n [] tasks
      → tasks ≡ waiters name start.states → now ≡ settled name start
  waking_done name start now o n tasks w is = all_same w.owners (awake ∙ w.states)
      (sym (append-nil now.queue) ∙ w.queue ∙ ap (λ (l : List ℕ). start.queue ++ l) is) w.claims w.spare
    where
      awake : now.states ≡ map (woken name) now.states
      awake = ext_get_or Gone now.states (map (woken name) now.states) (sym (length-map now.states (woken name)))
          (λ j below. sym (at_settled name now.states j ∙ not_woken name (state_at now.states j) (asleep j (cases_Bool (waits_for name (state_at now.states j))))))
        where
          asleep : (j : ℕ) → (waits_for name (state_at now.states j) ≡ true) ⊎ (waits_for name (state_at now.states j) ≡ false)
              → waits_for name (state_at now.states j) ≡ false
          asleep j (inl waits) = absurd (omega (arith, w.waits j, ap one waits))
          asleep j (inr sleeps) = sleeps

      all_same : now.owners ≡ start.owners → now.states ≡ map (woken name) start.states → now.queue ≡ start.queue ++ waiters name start.states
          → now.claims ≡ start.claims → now.spare ≡ start.spare → now ≡ settled name start
      all_same eo es eq ec ep = board_is eo es eq ec ep

  -- where there are no tasks, none is woken
  pub settled_none : (name : List ℕ) (board : Board W) → length board.states ≡ 0 → settled name board ≡ board
  settled_none name board none = board_same _ _ _ _ _ _ board.claims board.spare refl (no_states board.states none) (no_waiters board.states none)
    where
      no_states : (states : List (State W)) → length states ≡ 0 → map (woken name) states ≡ states
      no_states [] e = refl
      no_states (s ∷ states) e = absurd (omega arith)

      no_waiters : (states : List (State W)) → length states ≡ 0 → board.queue ++ waiters name states ≡ board.queue
      no_waiters [] e = append-nil board.queue
      no_waiters (s ∷ states) e = absurd (omega arith)

  pub waiters_few : (name : List ℕ) (states : List (State W)) → length (waiters name states) ≤ length states
  waiters_few name states = omega (arith, length-numbers (waits_for name) 0 states, count-length (waits_for name) states)

-- going through a list for what passes a test
pub finding_first : (test : ℕ → Bool) (ids : List ℕ) → IsFinding test ids [] (first_of ids)
finding_first test ids = record { stands = λ k is. first_stands ids k is; total = ap (filter test) (rest_all ids) }

module _ (test : ℕ → Bool) (all : Lists) (list : ℕ) (found : List ℕ) (k : ℕ) (lists : AreLists all) (f : IsFinding test (list_at all.lists list) found (Some k)) where
  ids : List ℕ
  ids = list_at all.lists list

  once : (m : ℕ) → times_in m (list_at all.lists list) ≤ 1
  once m = omega (arith, times_at m all.lists list, lists.once m)

  split : IsSplit k (list_at all.lists list)
  split = split_at_id k (list_at all.lists list) (f.stands k refl)

  next_is : next_of k all.lists ≡ first_of split.back
  next_is = next_after list k all.lists split.front split.back (lists.once k) split.is

  left_is : found ++ filter test (k ∷ split.back) ≡ filter test (list_at all.lists list)
  left_is = ap (λ (l : List ℕ). found ++ filter test l) (sym (rest_is k (list_at all.lists list) once split)) ∙ f.total

  smaller : length (rest (first_of split.back) (list_at all.lists list)) < length (rest (Some k) (list_at all.lists list))
  smaller = omega (arith, ap length (rest_stays k (list_at all.lists list) once split), ap length (rest_is k (list_at all.lists list) once split))

  pub finding_more : (found' : List ℕ) (next : Option ℕ) → next ≡ next_of k all.lists → found' ≡ found ++ filter test (k ∷ [])
      → IsFinding test (list_at all.lists list) found' next × (length (rest next (list_at all.lists list)) < length (rest (Some k) (list_at all.lists list)))
  finding_more found' next is more = subst
      (λ (m : Option ℕ). IsFinding test (list_at all.lists list) found' m × (length (rest m (list_at all.lists list)) < length (rest (Some k) (list_at all.lists list))))
      (sym (is ∙ next_is)) (
        record {
          stands = λ m first. back_stays k (list_at all.lists list) once split m (first_stands split.back m first);
          total = ap (λ (l : List ℕ). l ++ filter test (rest (first_of split.back) (list_at all.lists list))) more
              ∙ append_assoc found (filter test (k ∷ [])) (filter test (rest (first_of split.back) (list_at all.lists list)))
              ∙ ap (λ (l : List ℕ). found ++ (filter test (k ∷ []) ++ filter test l)) (rest_stays k (list_at all.lists list) once split)
              ∙ ap (λ (l : List ℕ). found ++ l) (sym (filter-append test (k ∷ []) split.back)) ∙ left_is;
        },
        smaller,
      )

  -- there is room for one more
  pub finding_fits : (room : ℕ) → test k ≡ true → all.ids ≤ room → length found < room
  finding_fits room passes fits = omega (
    arith,
    fits,
    few_ids all.ids (list_at all.lists list) once (λ m stands. lists.made m (omega (arith, stands, times_at m all.lists list))),
    fewer (list_at all.lists list),
    ap length left_is,
    length-append found (filter test (k ∷ split.back)),
    ap length (cond-true (test k) (k ∷ filter test split.back) (filter test split.back) passes),
  )
    where
      fewer : (ms : List ℕ) → length (filter test ms) ≤ length ms
      fewer [] = omega arith
      fewer (m ∷ ms) = elim (cases_Bool (test m)) [
        | inl keeps ↦ omega (arith, ap length (cond-true (test m) (m ∷ filter test ms) (filter test ms) keeps), fewer ms)
        | inr drops ↦ omega (arith, ap length (cond-false (test m) (m ∷ filter test ms) (filter test ms) drops), fewer ms)
      ]
