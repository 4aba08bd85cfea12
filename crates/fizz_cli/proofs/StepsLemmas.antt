-- Facts about the steps that read files.
use Rattle.std.proofs.Common.{◌≡◌, ℕ, List, length, Option, Some, None, Result, Ok, Err, Vec, Global, refl, sym, ◌∙◌, ap, subst, inl, inr, arith}
use Rattle.fizz_outside.specs.FileContents.{Contents}
use Rattle.fizz_cli.specs.Reports.{Change, FilesReport}
use Rattle.fizz_cli.specs.Steps.{AcceptsOrRefuses, FirstOrNext, IsFile, IsLongFile, IsNotRead, IsOrMemory, ReadsFiles, RefusesFile}
use Rattle.fizz_cli.specs.declared.refusal.FileFault.{FileFault}
use Rattle.fizz_cli.specs.declared.refusal.Refusal.{Refusal}
use Rattle.fizz_cli.specs.declared.refusal.Refusal.TheVariants.{CannotRead, File}
use Rattle.fizz_cli.specs.declared.stop.OrMemory.{OrMemory}
use Rattle.fizz_cli.specs.declared.stop.OrMemory.TheVariants.{Fault, NoMemory}

-- what refused bytes make of the step that read them
bad_bytes : {A F : Type 0} (accepts : A → Type 0) (fault_of : F → FileFault) (refuses : List ℕ → F → Type 0) (faulted : Type 0)
    (most : ℕ) (name : List ℕ) (file : Option (List ℕ)) (bytes : List ℕ) (fault : F) (stop : OrMemory Refusal) →
    IsFile most file bytes → refuses bytes fault → IsOrMemory (File name (fault_of fault)) stop →
    AcceptsOrRefuses accepts (RefusesFile fault_of refuses faulted most name file) (Err stop)
bad_bytes accepts fault_of refuses faulted most name file bytes fault (Fault refusal) f r s =
    inr (record { bytes = bytes; fault = fault; is_file = f; refused = r; says = s })
bad_bytes accepts fault_of refuses faulted most name file bytes fault NoMemory f r s = tt

file_apart : (name other : List ℕ) (fault : FileFault) (refusal : Refusal) → refusal ≡ File name fault → refusal ≡ CannotRead other → ⊥
file_apart name other fault refusal is read = cc

same_fault : {A : Type 0} (refusal other : Refusal) (a b : Result A (OrMemory Refusal)) → a ≡ Err (Fault refusal) → b ≡ Err (Fault other) → a ≡ b → refusal ≡ other
same_fault refusal other a b p q e = cc

memory_apart : {A : Type 0} (refusal : Refusal) (a b : Result A (OrMemory Refusal)) → a ≡ Err NoMemory → b ≡ Err (Fault refusal) → a ≡ b → ⊥
memory_apart refusal a b p q e = cc

-- a file that is refused for its bytes could be read
could_read : {A : Type 0} (name other : List ℕ) (fault : FileFault) (stop : OrMemory Refusal) (result : Result A (OrMemory Refusal)) →
    IsOrMemory (File name fault) stop → result ≡ Err stop → result ≡ Err (Fault (CannotRead other)) → ⊥
could_read name other fault (Fault refusal) result s is read =
    file_apart name other fault refusal s (same_fault refusal (CannotRead other) result result is read refl)
could_read name other fault NoMemory result s is read = memory_apart (CannotRead other) result result is read refl

-- the step that read a file whose bytes are refused
pub refuses_bytes : {A F : Type 0} (accepts : Contents → A → Type 0) (fault_of : F → FileFault) (refuses : List ℕ → F → Type 0)
    (most : ℕ) (name : List ℕ) (files : Change FilesReport) (bytes : Vec ℕ Global) (fault : F) (stop : OrMemory Refusal) →
    ReadsFiles (λ at (b : Vec ℕ Global). IsFile most (at name) b.items) (λ at faulted. IsNotRead faulted most name (at name)) files (Ok bytes) →
    refuses bytes.items fault → IsOrMemory (File name (fault_of fault)) stop →
    ReadsFiles accepts (λ at faulted. RefusesFile fault_of refuses faulted most name (at name)) files (Err stop)
refuses_bytes {A} {F} accepts fault_of refuses most name files bytes fault stop read r s = record {
  same = read.same;
  later = read.later;
  told = λ at told. bad_bytes (accepts at) fault_of refuses _ most name (at name) bytes.items fault stop (read.told at told) r s;
  untold = λ none other is. absurd (could_read {A = A} name other (fault_of fault) stop (Err stop) s refl is);
}

-- with no fault counted

not_read_quiet : (faulted : Type 0) (most : ℕ) (name : List ℕ) (file : Option (List ℕ)) (refusal : Refusal) → (faulted → ⊥) →
    IsNotRead faulted most name file refusal → IsNotRead ⊥ most name file refusal
not_read_quiet faulted most name file refusal quiet (IsNotRead.unread is (inl f)) = absurd (quiet f)
not_read_quiet faulted most name file refusal quiet (IsNotRead.unread is (inr none)) = IsNotRead.unread is (inr none)
not_read_quiet faulted most name file refusal quiet (IsNotRead.too_long is long) = IsNotRead.too_long is long

pub refuses_quiet : {F : Type 0} (fault_of : F → FileFault) (refuses : List ℕ → F → Type 0) (faulted : Type 0) (most : ℕ) (name : List ℕ)
    (file : Option (List ℕ)) (refusal : Refusal) → (faulted → ⊥) → RefusesFile fault_of refuses faulted most name file refusal →
    RefusesFile fault_of refuses ⊥ most name file refusal
refuses_quiet fault_of refuses faulted most name file refusal quiet (inl r) = inl (not_read_quiet faulted most name file refusal quiet r)
refuses_quiet fault_of refuses faulted most name file refusal quiet (inr r) = inr r

-- with a fault counted elsewhere too

not_read_more : (faulted more : Type 0) (most : ℕ) (name : List ℕ) (file : Option (List ℕ)) (refusal : Refusal) → (faulted → more) →
    IsNotRead faulted most name file refusal → IsNotRead more most name file refusal
not_read_more faulted more most name file refusal to (IsNotRead.unread is (inl f)) = IsNotRead.unread is (inl (to f))
not_read_more faulted more most name file refusal to (IsNotRead.unread is (inr none)) = IsNotRead.unread is (inr none)
not_read_more faulted more most name file refusal to (IsNotRead.too_long is long) = IsNotRead.too_long is long

pub refuses_more : {F : Type 0} (fault_of : F → FileFault) (refuses : List ℕ → F → Type 0) (faulted more : Type 0) (most : ℕ) (name : List ℕ)
    (file : Option (List ℕ)) (refusal : Refusal) → (faulted → more) → RefusesFile fault_of refuses faulted most name file refusal →
    RefusesFile fault_of refuses more most name file refusal
refuses_more fault_of refuses faulted more most name file refusal to (inl r) = inl (not_read_more faulted more most name file refusal to r)
refuses_more fault_of refuses faulted more most name file refusal to (inr r) = inr r

-- what is accepted is not refused

apart : {A : Type 0} (file : Option A) (a : A) → file ≡ Some a → file ≡ None → ⊥
apart file a some none = cc

pub same_bytes : (file : Option (List ℕ)) (a b : List ℕ) → file ≡ Some a → file ≡ Some b → a ≡ b
same_bytes file a b p q = cc

not_long : (most : ℕ) (file : Option (List ℕ)) (bytes : List ℕ) → IsFile most file bytes → IsLongFile most file → ⊥
not_long most file bytes f l =
    let same : length l.bytes ≡ length bytes = ap length (same_bytes file l.bytes bytes l.found f.found) in
    omega (arith, f.short, l.long)

is_read : (most : ℕ) (name : List ℕ) (file : Option (List ℕ)) (bytes : List ℕ) (refusal : Refusal) → IsFile most file bytes →
    IsNotRead ⊥ most name file refusal → ⊥
is_read most name file bytes refusal f (IsNotRead.unread is (inl never)) = never
is_read most name file bytes refusal f (IsNotRead.unread is (inr none)) = apart file bytes f.found none
is_read most name file bytes refusal f (IsNotRead.too_long is long) = not_long most file bytes f long

pub file_excludes : {F : Type 0} (fault_of : F → FileFault) (refuses : List ℕ → F → Type 0) (most : ℕ) (name : List ℕ) (file : Option (List ℕ))
    (bytes : List ℕ) (refusal : Refusal) → IsFile most file bytes → ((fault : F) → refuses bytes fault → ⊥) →
    RefusesFile fault_of refuses ⊥ most name file refusal → ⊥
file_excludes fault_of refuses most name file bytes refusal f sound (inl r) = is_read most name file bytes refusal f r
file_excludes fault_of refuses most name file bytes refusal f sound (inr r) =
    sound r.fault (subst (λ (b : List ℕ). refuses b r.fault) (same_bytes file r.bytes bytes r.is_file.found f.found) r.refused)

-- a file is refused for one thing

one_unread : (most : ℕ) (name : List ℕ) (file : Option (List ℕ)) (a b : Refusal) → IsNotRead ⊥ most name file a → IsNotRead ⊥ most name file b → a ≡ b
one_unread most name file a b (IsNotRead.unread p (inl never)) y = absurd never
one_unread most name file a b (IsNotRead.unread p (inr none)) (IsNotRead.unread q w) = p ∙ sym q
one_unread most name file a b (IsNotRead.unread p (inr none)) (IsNotRead.too_long q long) = absurd (apart file long.bytes long.found none)
one_unread most name file a b (IsNotRead.too_long p long) (IsNotRead.unread q (inl never)) = absurd never
one_unread most name file a b (IsNotRead.too_long p long) (IsNotRead.unread q (inr none)) = absurd (apart file long.bytes long.found none)
one_unread most name file a b (IsNotRead.too_long p long) (IsNotRead.too_long q other) = p ∙ sym q

pub one_file_refusal : {F : Type 0} (fault_of : F → FileFault) (refuses : List ℕ → F → Type 0) (most : ℕ) (name : List ℕ) (file : Option (List ℕ))
    (a b : Refusal) → ((bytes : List ℕ) (f g : F) → refuses bytes f → refuses bytes g → f ≡ g) →
    RefusesFile fault_of refuses ⊥ most name file a → RefusesFile fault_of refuses ⊥ most name file b → a ≡ b
one_file_refusal fault_of refuses most name file a b one (inl p) (inl q) = one_unread most name file a b p q
one_file_refusal fault_of refuses most name file a b one (inl p) (inr q) = absurd (is_read most name file q.bytes a q.is_file p)
one_file_refusal fault_of refuses most name file a b one (inr p) (inl q) = absurd (is_read most name file p.bytes b p.is_file q)
one_file_refusal {F} fault_of refuses most name file a b one (inr p) (inr q) =
    let same : q.bytes ≡ p.bytes = same_bytes file q.bytes p.bytes q.is_file.found p.is_file.found in
    let there : refuses p.bytes q.fault = subst (λ (bs : List ℕ). refuses bs q.fault) same q.refused in
    p.says ∙ ap (λ (f : F). File name (fault_of f)) (one p.bytes p.fault q.fault p.refused there) ∙ sym q.says

-- what a reader refuses the bytes of a file for
pub refused_for : {A F : Type 0} (accepts : List ℕ → A → Type 0) (refuses : List ℕ → F → Type 0) (given bytes : List ℕ) (e : OrMemory F) (fault : F) →
    given ≡ bytes → e ≡ Fault fault → AcceptsOrRefuses (accepts given) (refuses given) (Err e) → refuses bytes fault
refused_for {A} {F} accepts refuses given bytes e fault same is r =
    subst (λ (bs : List ℕ). refuses bs fault) same (subst (λ (x : OrMemory F). AcceptsOrRefuses {A = A} (accepts given) (refuses given) (Err x)) is r)

-- a step that reads files, and then one that reads none
pub reads_then : {A B : Type 0} (accepts : Contents → A → Type 0) (refuses : Contents → Type 0 → Refusal → Type 0)
    (gives : B → Type 0) (next : A → Refusal → Type 0) (accepted : Contents → B → Type 0) (files : Change FilesReport) (a : A)
    (result : Result B (OrMemory Refusal)) → ((at : Contents) (b : B) → accepts at a → gives b → accepted at b) →
    ((name : List ℕ) → next a (CannotRead name) → ⊥) → ReadsFiles accepts refuses files (Ok a) →
    AcceptsOrRefuses gives (next a) result →
    ReadsFiles accepted (λ at faulted. FirstOrNext (refuses at faulted) (accepts at) next) files result
reads_then {A} {B} accepts refuses gives next accepted files a result leads readable read r = record {
  same = read.same;
  later = read.later;
  told = λ at told. by_cases at _ result (read.told at told) r;
  untold = λ none name is. absurd (readable name (subst (λ (x : Result B (OrMemory Refusal)). AcceptsOrRefuses gives (next a) x) is r));
}
  where
    by_cases : (at : Contents) (faulted : Type 0) (result : Result B (OrMemory Refusal)) → accepts at a →
        AcceptsOrRefuses gives (next a) result → AcceptsOrRefuses (accepted at) (FirstOrNext (refuses at faulted) (accepts at) next) result
    by_cases at faulted (Ok b) told r = leads at b told r
    by_cases at faulted (Err (Fault refusal)) told r = inr (a, told, r)
    by_cases at faulted (Err NoMemory) told r = tt
