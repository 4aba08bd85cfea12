-- The first rule that a file breaks, by its names in order. This is for private functions.
use Rattle.std.specs.Prelude.{◌≡◌, ℕ, Bool, ◌&&◌, ◌||◌, ◌==◌, nat_lt, if◌then◌else◌, List, [], ◌∷◌, Option, Some, None}
use Rattle.jsx_syntax.specs.Rules.{Site, name_at, breaks, IsSound}
use Rattle.jsx_syntax.specs.declared.file.Component.{Component}
use Rattle.jsx_syntax.specs.declared.file.File.{File}
use Rattle.jsx_syntax.specs.declared.rule.Rule.{Rule}
use Rattle.jsx_syntax.specs.declared.rule.Rule.TheVariants.{UnknownName, UnknownElement, UnknownAttribute, TwiceDefined, UsedBeforeDefined, FallbackNotPlain}
use Rattle.jsx_check.specs.Checks.{IsFirstBroken, rank_of}
use Rattle.jsx_check.specs.declared.found.Found.{Found}

-- the first of the rules that a name breaks
abbrev pub first_rule : List Component → Site → Option Rule
first_rule components site =
    if breaks components UnknownName site then Some UnknownName else
    if breaks components UnknownElement site then Some UnknownElement else
    if breaks components UnknownAttribute site then Some UnknownAttribute else
    if breaks components TwiceDefined site then Some TwiceDefined else
    if breaks components UsedBeforeDefined site then Some UsedBeforeDefined else
    if breaks components FallbackNotPlain site then Some FallbackNotPlain else None

abbrev pub found_by : ℕ → Option Rule → Option Found
found_by place None = None
found_by place (Some rule) = Some (record { rule = rule; at = place })

-- what is found at a name
abbrev pub found_at : List Component → Site → Option Found
found_at components site = found_by ((name_at site).at) (first_rule components site)

-- one comes before another: its place is less, or at one place its rule is
abbrev pub is_before : Found → Found → Bool
is_before a b = nat_lt a.at b.at || (a.at == b.at && nat_lt (rank_of a.rule) (rank_of b.rule))

-- the earlier of two, and the first where they are alike
abbrev pub earlier : Option Found → Option Found → Option Found
earlier None b = b
earlier (Some a) None = Some a
earlier (Some a) (Some b) = if is_before b a then Some b else Some a

-- the earliest of what was found before and at the names
abbrev pub earliest : List Component → Option Found → List Site → Option Found
earliest components found [] = found
earliest components found (site ∷ sites) = earliest components (earlier found (found_at components site)) sites

-- What was found decides whether the rules hold.
pub record Decides (file : File) (found : Option Found) : Type 0 where
  pub sound : found ≡ None → IsSound file
  pub broken : (f : Found) → found ≡ Some f → IsFirstBroken file f.rule f.at
