-- The comments that a page may have, after React's server renderer: four mark the boundaries, and one stands between
-- two texts.
use Rattle.std.specs.Prelude.{ℕ, List, ◌++◌, codes}
use Rattle.html_names.specs.declared.comments.CommentKind.{CommentKind}
use Rattle.html_names.specs.declared.comments.CommentKind.TheVariants.{Complete, Pending, Client, End, Space}

-- The data of a comment, which stands between `<!--` and `-->`.
abbrev pub comment_data : CommentKind → List ℕ
comment_data Complete = codes "$"
comment_data Pending = codes "$?"
comment_data Client = codes "$!"
comment_data End = codes "/$"
comment_data Space = codes " "

-- The bytes of a comment.
abbrev pub comment_spelling : CommentKind → List ℕ
comment_spelling kind = codes "<!--" ++ (comment_data kind ++ codes "-->")
