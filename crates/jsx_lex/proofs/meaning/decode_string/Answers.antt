use Rattle.std.proofs.Common.{refl, get_or}
use Rattle.jsx_lex.proofs.Texts.{string_utf8}
use Rattle.jsx_lex.proofs.StringDecoding.{decodes-first, decodes-more, decodes-end}
use Rattle.jsx_lex.proofs.StringTextLemmas.{string_text_of-is}
use Rattle.jsx_lex.proofs.meaning.decode_string.Goals as goal

pub parts-init : goal.parts-init
parts-init c = decodes-first c.args.word.now (get_or c.args.word.now 0 0) c.new-out.result.items c.requires refl c.new-out.ensures.items

pub parts-preserved : goal.parts-preserved
parts-preserved c = decodes-more c.args.word.now c.args.word.now (get_or c.args.word.now 0 0) c.parts.at c.parts.out.items c.push_meaning.new.out.items c.in-Some.part c.parts.invariant c.in-Some.ensures.part c.in-Some.ensures.within.1 c.in_ok-push_meaning.ensures

pub returns-clause-text : goal.returns-clause-text
returns-clause-text c = decodes-end c.args.word.now c.args.word.now (get_or c.args.word.now 0 0) c.parts.at c.parts.out.items c.parts.invariant c.in_default.ensures.part

pub returns-clause-utf8 : goal.returns-clause-utf8
returns-clause-utf8 c = λ u. string_utf8 c.args.word.now c.parts.out.items (returns-clause-text c) u

pub returns-clause-read : goal.returns-clause-read
returns-clause-read c = string_text_of-is c.args.word.now c.parts.out.items (returns-clause-text c)
