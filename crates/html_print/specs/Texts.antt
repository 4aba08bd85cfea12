-- How a text is printed, after React's server renderer.
use Rattle.std.specs.Prelude.{ℕ, Bool, if◌then◌else◌, List, [], ◌++◌}
use Rattle.html_names.specs.Comments.{comment_spelling}
use Rattle.html_names.specs.Escape.{escape_of}
use Rattle.html_names.specs.declared.comments.CommentKind.TheVariants.{Space}

-- `<!-- -->` where a text was printed last. It keeps the next text apart, so that a reader of the page finds two.
abbrev pub separator_bytes : Bool → List ℕ
separator_bytes after_text = if after_text then comment_spelling Space else []

abbrev pub text_bytes : Bool → List ℕ → List ℕ
text_bytes after_text text = separator_bytes after_text ++ escape_of text
