-- Each token passes: its bytes lead from mode to mode, and the last one ends it.
use Rattle.std.proofs.Common.{◌≡◌, ◌≢◌, ℕ, ◌-◌, Bool, true, false, nat_eq, ◌==◌, Option, Some, None, List, [], ◌∷◌, ◌++◌, length, drop, take, codes, refl, sym, ◌∙◌, ap, subst, arith, append-nil, append_assoc, length-append}
use Rattle.std.specs.List.{list_all, ends_with}
use Rattle.std.specs.Str.{IsUtf8, bytes_eq}
use Rattle.std.proofs.lemmas.Bool.{cond-true, cond-false, and_parts, or_right, or_parts, false_from_ne_true, ne_eqb}
use Rattle.std.proofs.lemmas.Bool.Decides.{Decides-eqb}
use Rattle.std.proofs.lemmas.List.{drop_at, same_from_push}
use Rattle.std.proofs.lemmas.Slice.Eq.{bytes_eq-Decides, ends_is}
use Rattle.fizz_text.specs.declared.attribute.Attr.{Attr}
use Rattle.html_names.specs.Escape.{escape_of}
use Rattle.html_names.specs.Elements.{element_rows}
use Rattle.html_names.specs.declared.comments.CommentKind.{CommentKind}
use Rattle.html_names.specs.declared.comments.CommentKind.TheVariants as kind
use Rattle.html_read.specs.declared.token.Token.{Token}
use Rattle.html_read.specs.declared.token.Token.TheVariants as toks
use Rattle.html_read.specs.declared.fault.ReadKind.TheVariants as kinds
use Rattle.html_read.specs.declared.place.Place.TheVariants.{Whole}
use Rattle.html_read.specs.declared.machine.Mode.{Mode}
use Rattle.html_read.specs.declared.machine.Mode.TheVariants.{Name, EndName, Comment, Script, Space, Attribute, Value, Close, Slash}
use Rattle.html_read.specs.declared.machine.Transition.TheVariants.{Goes, Ends, Fails}
use Rattle.html_names.specs.Names.{is_letter, is_name_byte}
use Rattle.html_read.specs.Names.{IsTagName, IsAttributeName}
use Rattle.html_names.specs.Printing.{value_spelling, attribute_spelling, attributes_spelling, tag_prefix}
use Rattle.html_names.specs.Comments.{comment_data}
use Rattle.html_read.specs.Tokens.{HasValue, AreAttributes, script_end, IsScriptBody, spelling, IsToken, is_text}
use Rattle.html_read.specs.Machine.{is_word, begins_word, tag_words, start_words, tag_flag, close_transition, flag_transition, end_flag_transition, go_on, mode_after}
use Rattle.html_read.proofs.WordLemmas.{none_true, begins_gives, is_word_byte, begins_with_letter, start_word_bytes, tag_name_letter, tag_name_is, tag_name_not_script, tag_of_flag, flag_of_tag, flag_of_void}
use Rattle.html_read.proofs.FitsLemmas.{script_goes}
use Rattle.html_read.proofs.ModeAfterLemmas.{transition_at, mode_append, value_mode, text_through, name_on, end_name_on}

-- The bytes lead from the `<` on through modes, and the last one ends the token.
pub record Passes (bytes : List ℕ) : Type 0 where
  pub front : List ℕ
  pub last : ℕ
  pub mode : Mode
  pub is : bytes ≡ 60 ∷ front ++ last ∷ []
  pub through : mode_after Name (60 ∷ []) front ≡ Some mode
  pub ends : transition_at mode (60 ∷ front) last ≡ Ends

all_last : (test : ℕ → Bool) (xs more : List ℕ) (b : ℕ) → list_all test ((xs ++ b ∷ []) ++ more) ≡ true → test b ≡ true
all_last test [] more b h = (and_parts _ _ h).0
all_last test (x ∷ xs) more b h = all_last test xs more b ((and_parts _ _ h).1)

-- No word goes on with a byte that names don't have.
pub not_begins : (name : List ℕ) (b : ℕ) → is_word_byte b ≡ false → begins_word start_words (name ++ b ∷ []) ≡ false
not_begins name b n = false_from_ne_true _ (λ h.
    let g : (rest : List ℕ) × (is_word start_words ((name ++ b ∷ []) ++ rest) ≡ true) = begins_gives start_words (name ++ b ∷ []) h in
    none_true (sym n ∙ all_last is_word_byte name g.0 b (start_word_bytes ((name ++ b ∷ []) ++ g.0) g.1)))

pub not_begins_tag : (name : List ℕ) (b : ℕ) → is_word_byte b ≡ false → begins_word tag_words (name ++ b ∷ []) ≡ false
not_begins_tag name b n = (or_parts _ _ (not_begins name b n)).1

some_name : (name : List ℕ) → begins_with_letter name ≡ true → (length name == 0) ≡ false
some_name [] h = absurd (none_true h)
some_name (b ∷ bs) h = ne_eqb (length (b ∷ bs)) 0 (λ e. omega arith)

-- After the name of a tag.
pub name_closes : (name : List ℕ) (v : Bool) (b : ℕ) → tag_flag name ≡ Some v → is_word_byte b ≡ false → transition_at Name (60 ∷ name) b ≡ close_transition v b
name_closes name v b f n =
    let tag : IsTagName name = tag_of_flag name v f in
    cond-false _ _ _ (not_begins name b n) ∙ (cond-false _ _ _ (some_name name (tag_name_letter name tag)) ∙ (cond-false _ _ _ (tag_name_not_script name tag)
    ∙ (ap (λ o. flag_transition o b) f ∙ cond-false _ _ _ n)))

-- A place in a tag where an attribute may begin or the tag may end.
pub record Closed (v : Bool) (mode : Mode) (seen : List ℕ) : Type 0 where
  pub space : transition_at mode seen 32 ≡ Goes (Space v)
  pub ends : transition_at mode seen 62 ≡ Ends
  pub slash : v ≡ true → transition_at mode seen 47 ≡ Goes Slash

slash_of : (v : Bool) → v ≡ true → close_transition v 47 ≡ Goes Slash
slash_of v e = ap (λ w. close_transition w 47) e

name_closed : (name : List ℕ) (v : Bool) → tag_flag name ≡ Some v → Closed v Name (60 ∷ name)
name_closed name v f = record {
  space = name_closes name v 32 f refl;
  ends = name_closes name v 62 f refl;
  slash = λ e. name_closes name v 47 f refl ∙ slash_of v e;
}

value_closed : (v : Bool) (seen : List ℕ) → Closed v (Close v) seen
value_closed v seen = record { space = refl; ends = refl; slash = slash_of v }

hidden_closed : (v : Bool) (start : ℕ) (seen : List ℕ) → drop start seen ≡ codes "hidden" → Closed v (Attribute v start) seen
hidden_closed v start seen e =
    let is : bytes_eq (drop start seen) (codes "hidden") ≡ true = (bytes_eq-Decides _ _).1 e in record {
      space = cond-true _ _ _ is;
      ends = cond-true _ _ _ is;
      slash = λ t. cond-true _ _ _ is ∙ slash_of v t;
    }

attribute_on : (v : Bool) (start : ℕ) (seen bs : List ℕ) → list_all is_name_byte bs ≡ true → mode_after (Attribute v start) seen bs ≡ Some (Attribute v start)
attribute_on v start seen [] h = refl
attribute_on v start seen (b ∷ bs) h =
    let p : (is_name_byte b ≡ true) × (list_all is_name_byte bs ≡ true) = and_parts _ _ h in
    ap (λ t. go_on t (λ m. mode_after m (seen ++ b ∷ []) bs)) (cond-true (is_name_byte b) (Goes (Attribute v start)) _ p.0) ∙ attribute_on v start (seen ++ b ∷ []) bs p.1

-- ` name`
record InName (v : Bool) (mode : Mode) (seen name : List ℕ) : Type 0 where
  start : ℕ
  through : mode_after mode seen (32 ∷ name) ≡ Some (Attribute v start)
  cut : drop start (seen ++ 32 ∷ name) ≡ name

name_passes : (v : Bool) (mode : Mode) (seen name : List ℕ) → IsAttributeName name → Closed v mode seen → InName v mode seen name
name_passes v mode seen [] h c = absurd h
name_passes v mode seen (b ∷ bs) h c =
    let start : ℕ = length (seen ++ 32 ∷ [] ++ b ∷ []) - 1 in
    let first : mode_after mode seen (32 ∷ b ∷ bs) ≡ mode_after (Space v) (seen ++ 32 ∷ []) (b ∷ bs) = ap (λ t. go_on t (λ m. mode_after m (seen ++ 32 ∷ []) (b ∷ bs))) c.space in
    let second : mode_after (Space v) (seen ++ 32 ∷ []) (b ∷ bs) ≡ mode_after (Attribute v start) (seen ++ 32 ∷ [] ++ b ∷ []) bs =
    ap (λ t. go_on t (λ m. mode_after m (seen ++ 32 ∷ [] ++ b ∷ []) bs)) (cond-true (is_letter b) (Goes (Attribute v start)) (Fails kinds.Attribute) h.0) in
    let third : mode_after (Attribute v start) (seen ++ 32 ∷ [] ++ b ∷ []) bs ≡ Some (Attribute v start) = attribute_on v start (seen ++ 32 ∷ [] ++ b ∷ []) bs h.1 in
    record {
      start = start;
      through = first ∙ (second ∙ third);
      cut = ap (drop start) (sym (append_assoc seen (32 ∷ []) (b ∷ bs))) ∙ drop_at (seen ++ 32 ∷ []) (b ∷ bs) start (omega (arith, length-append (seen ++ 32 ∷ []) (b ∷ []), length-append seen (32 ∷ [])));
    }

record AttributePasses (v : Bool) (mode : Mode) (seen bytes : List ℕ) : Type 0 where
  next : Mode
  through : mode_after mode seen bytes ≡ Some next
  closed : Closed v next (seen ++ bytes)

quoted : (v : Bool) (start : ℕ) (seen text : List ℕ) → IsUtf8 text → mode_after (Attribute v start) seen (codes "=\"" ++ (escape_of text ++ codes "\"")) ≡ Some (Close v)
quoted v start seen text u =
    let inside : List ℕ = seen ++ 61 ∷ [] ++ 34 ∷ [] in
    mode_append (Value v Whole) inside (escape_of text) (codes "\"") (Value v Whole) (value_mode v Whole Whole inside (escape_of text) (text_through inside text u))

value_passes : (v : Bool) (mode : Mode) (seen name : List ℕ) (value : Option (List ℕ)) → IsAttributeName name → HasValue name value → Closed v mode seen
    → AttributePasses v mode seen (32 ∷ name ++ value_spelling value)
value_passes v mode seen name None h k c =
    let n : InName v mode seen name = name_passes v mode seen name h c in record {
      next = Attribute v n.start;
      through = ap (mode_after mode seen) (append-nil (32 ∷ name)) ∙ n.through;
      closed = subst (λ x. Closed v (Attribute v n.start) (seen ++ x)) (sym (append-nil (32 ∷ name))) (hidden_closed v n.start (seen ++ 32 ∷ name) (n.cut ∙ k));
    }
value_passes v mode seen name (Some text) h k c =
    let n : InName v mode seen name = name_passes v mode seen name h c in record {
      next = Close v;
      through = mode_append mode seen (32 ∷ name) (value_spelling (Some text)) (Attribute v n.start) n.through ∙ quoted v n.start (seen ++ 32 ∷ name) text k;
      closed = value_closed v (seen ++ (32 ∷ name ++ value_spelling (Some text)));
    }

attributes_pass : (v : Bool) (mode : Mode) (seen : List ℕ) (attributes : List Attr) → AreAttributes attributes → Closed v mode seen → AttributePasses v mode seen (attributes_spelling attributes)
attributes_pass v mode seen [] h c = record { next = mode; through = refl; closed = subst (Closed v mode) (sym (append-nil seen)) c }
attributes_pass v mode seen (a ∷ more) h c =
    let first : AttributePasses v mode seen (attribute_spelling a) = value_passes v mode seen a.name a.value h.0.0 h.0.1 c in
    let rest : AttributePasses v first.next (seen ++ attribute_spelling a) (attributes_spelling more) = attributes_pass v first.next (seen ++ attribute_spelling a) more h.1 first.closed in
    record {
      next = rest.next;
      through = mode_append mode seen (attribute_spelling a) (attributes_spelling more) first.next first.through ∙ rest.through;
      closed = subst (Closed v rest.next) (append_assoc seen (attribute_spelling a) (attributes_spelling more)) rest.closed;
    }

-- A tag up to its end.
tag_passes : (name : List ℕ) (v : Bool) (attributes : List Attr) → tag_flag name ≡ Some v → AreAttributes attributes
    → (next : Mode) × (mode_after Name (60 ∷ []) (name ++ attributes_spelling attributes) ≡ Some next) × Closed v next (tag_prefix name attributes)
tag_passes name v attributes f h =
    let word : is_word start_words name ≡ true = or_right _ _ (sym (tag_name_is name) ∙ tag_of_flag name v f) in
    let rest : AttributePasses v Name (60 ∷ name) (attributes_spelling attributes) = attributes_pass v Name (60 ∷ name) attributes h (name_closed name v f) in
    (rest.next, mode_append Name (60 ∷ []) name (attributes_spelling attributes) Name (name_on [] name word) ∙ rest.through, rest.closed)

start_passes : (name : List ℕ) (attributes : List Attr) → IsTagName name → AreAttributes attributes → Passes (tag_prefix name attributes ++ codes ">")
start_passes name attributes t h =
    let f : (v : Bool) × (tag_flag name ≡ Some v) = flag_of_tag name t in
    let p : (next : Mode) × (mode_after Name (60 ∷ []) (name ++ attributes_spelling attributes) ≡ Some next) × Closed f.0 next (tag_prefix name attributes) = tag_passes name f.0 attributes f.1 h in
    record { front = name ++ attributes_spelling attributes; last = 62; mode = p.0; is = refl; through = p.1; ends = p.2.ends }

void_passes : (name : List ℕ) (attributes : List Attr) → tag_flag name ≡ Some true → AreAttributes attributes → Passes (tag_prefix name attributes ++ codes "/>")
void_passes name attributes f h =
    let p : (next : Mode) × (mode_after Name (60 ∷ []) (name ++ attributes_spelling attributes) ≡ Some next) × Closed true next (tag_prefix name attributes) = tag_passes name true attributes f h in
    record {
      front = (name ++ attributes_spelling attributes) ++ 47 ∷ [];
      last = 62;
      mode = Slash;
      is = sym (append_assoc (tag_prefix name attributes) (47 ∷ []) (62 ∷ []));
      through = mode_append Name (60 ∷ []) (name ++ attributes_spelling attributes) (47 ∷ []) p.0 p.1 ∙ ap (λ t. go_on t (λ m. Some m)) (p.2.slash refl);
      ends = refl;
    }

slash_goes : transition_at Name (60 ∷ []) 47 ≡ Goes EndName
unfolding tag_words element_rows
slash_goes = refl

end_passes : (name : List ℕ) → IsTagName name → Passes (codes "</" ++ (name ++ codes ">"))
end_passes name t =
    let f : (v : Bool) × (tag_flag name ≡ Some v) = flag_of_tag name t in record {
      front = 47 ∷ name;
      last = 62;
      mode = EndName;
      is = refl;
      through = ap (λ t. go_on t (λ m. mode_after m (60 ∷ 47 ∷ []) name)) slash_goes ∙ end_name_on [] name (sym (tag_name_is name) ∙ t);
      ends = cond-false _ _ _ (not_begins_tag name 62 refl) ∙ ap (λ o. end_flag_transition o 62) f.1;
    }

bang_goes : transition_at Name (60 ∷ []) 33 ≡ Goes Comment
unfolding tag_words element_rows
bang_goes = refl

comment_on : (front : List ℕ) → mode_after Comment (60 ∷ 33 ∷ []) front ≡ Some Comment → mode_after Name (60 ∷ []) (33 ∷ front) ≡ Some Comment
comment_on front h = ap (λ t. go_on t (λ m. mode_after m (60 ∷ 33 ∷ []) front)) bang_goes ∙ h

comment_passes : (which : CommentKind) → Passes (codes "<!--" ++ (comment_data which ++ codes "-->"))
comment_passes kind.Complete = record { front = codes "!--$--"; last = 62; mode = Comment; is = refl; through = comment_on (codes "--$--") refl; ends = refl }
comment_passes kind.Pending = record { front = codes "!--$?--"; last = 62; mode = Comment; is = refl; through = comment_on (codes "--$?--") refl; ends = refl }
comment_passes kind.Client = record { front = codes "!--$!--"; last = 62; mode = Comment; is = refl; through = comment_on (codes "--$!--") refl; ends = refl }
comment_passes kind.End = record { front = codes "!--/$--"; last = 62; mode = Comment; is = refl; through = comment_on (codes "--/$--") refl; ends = refl }
comment_passes kind.Space = record { front = codes "!-- --"; last = 62; mode = Comment; is = refl; through = comment_on (codes "-- --") refl; ends = refl }

-- A script.
not_ended : (body : List ℕ) (b : ℕ) → b ≢ 62 → ends_with nat_eq (body ++ b ∷ []) script_end ≡ false
not_ended body b n = false_from_ne_true _ (λ h.
    let x : List ℕ = take (length (body ++ b ∷ []) - length script_end) (body ++ b ∷ []) in
    let cut : body ++ b ∷ [] ≡ x ++ codes "</script" ++ 62 ∷ [] = (ends_is Decides-eqb (body ++ b ∷ []) script_end _ refl).0 h ∙ sym (append_assoc x (codes "</script") (62 ∷ [])) in
    n ((same_from_push body (x ++ codes "</script") b 62 cut).1))

abbrev AreNot62 : List ℕ → Type 0
AreNot62 [] = Unit {0}
AreNot62 (b ∷ bs) = (b ≢ 62) × AreNot62 bs

body_more : (body tail : List ℕ) → AreNot62 tail → IsScriptBody body → IsScriptBody (body ++ tail)
body_more body [] h fine = subst IsScriptBody (sym (append-nil body)) fine
body_more body (b ∷ tail) h fine = subst IsScriptBody (append_assoc body (b ∷ []) tail) (body_more (body ++ b ∷ []) tail h.1 (script_goes body b fine (not_ended body b h.0)))

script_front_not : AreNot62 (codes "</script")
script_front_not = (λ e. omega arith, (λ e. omega arith, (λ e. omega arith, (λ e. omega arith, (λ e. omega arith, (λ e. omega arith, (λ e. omega arith, (λ e. omega arith, tt))))))))

script_on : (body more : List ℕ) → IsScriptBody (body ++ more) → mode_after Script (codes "<script>" ++ body) more ≡ Some Script
script_on body [] fine = refl
script_on body (b ∷ more) fine =
    let shifted : IsScriptBody ((body ++ b ∷ []) ++ more) = subst IsScriptBody (sym (append_assoc body (b ∷ []) more)) fine in
    let open_still : ends_with nat_eq (body ++ b ∷ []) script_end ≡ false = false_from_ne_true _ (λ h.
    let x : List ℕ = take (length (body ++ b ∷ []) - length script_end) (body ++ b ∷ []) in
    let cut : body ++ b ∷ [] ≡ x ++ script_end = (ends_is Decides-eqb (body ++ b ∷ []) script_end _ refl).0 h in
    shifted x more (ap (λ y. y ++ more) cut ∙ append_assoc x script_end more)) in
    ap (λ t. go_on t (λ m. mode_after m (codes "<script>" ++ body ++ b ∷ []) more)) (cond-false (ends_with nat_eq (body ++ b ∷ []) script_end) Ends (Goes Script) open_still)
    ∙ script_on (body ++ b ∷ []) more shifted

script_begins : transition_at Name (codes "<script") 62 ≡ Goes Script
unfolding tag_words element_rows
script_begins = refl

script_passes : (body : List ℕ) → IsScriptBody body → Passes (codes "<script>" ++ (body ++ script_end))
script_passes body fine =
    let inner : List ℕ = body ++ codes "</script" in
    let named : mode_after Name (60 ∷ []) (codes "script") ≡ Some Name = name_on [] (codes "script") refl in
    let whole : inner ++ 62 ∷ [] ≡ body ++ script_end = append_assoc body (codes "</script") (62 ∷ []) in
    record {
      front = codes "script>" ++ inner;
      last = 62;
      mode = Script;
      is = ap (λ x. codes "<script>" ++ x) (sym whole);
      through = mode_append Name (60 ∷ []) (codes "script") (62 ∷ inner) Name named ∙ (ap (λ t. go_on t (λ m. mode_after m (codes "<script>") inner)) script_begins
          ∙ script_on [] inner (body_more body (codes "</script") script_front_not fine));
      ends = cond-true _ _ _ ((ends_is Decides-eqb (inner ++ 62 ∷ []) script_end _ refl).1 body whole);
    }

-- Each token that is no text.
pub tok_passes : (tok : Token) → IsToken tok → is_text tok ≡ false → Passes (spelling tok)
tok_passes (toks.Start name attributes from) h n = start_passes name attributes h.0 h.1
tok_passes (toks.End name from) h n = end_passes name h
tok_passes (toks.Void name attributes from) h n = void_passes name attributes (flag_of_void name h.0) h.1
tok_passes (toks.Text text from) h n = absurd (none_true (sym n))
tok_passes (toks.Comment which from) h n = comment_passes which
tok_passes (toks.Script body from) h n = script_passes body h
