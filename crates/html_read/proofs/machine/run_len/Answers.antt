use Rattle.html_read.proofs.StaysLemmas.{text_stays, value_stays, attribute_stays}
use Rattle.html_read.proofs.machine.run_len.Goals as goal

pub returns-in-Text-clause-stays : goal.returns-in-Text-clause-stays
returns-in-Text-clause-stays c =
    rw (c.in-Text.is, c.plain_len_at.ensures.value) (text_stays c.in-Text.place c.args.rest.now)

pub returns-in-Value-clause-stays : goal.returns-in-Value-clause-stays
returns-in-Value-clause-stays c =
    rw (c.in-Value.is, c.plain_len_at-in-Value.ensures.value)
    (value_stays c.in-Value.is_void c.in-Value.place c.args.rest.now)

pub returns-in-Attribute-clause-stays : goal.returns-in-Attribute-clause-stays
returns-in-Attribute-clause-stays c =
    rw (c.in-Attribute.is, c.name_len.ensures.value)
    (attribute_stays c.in-Attribute.is_void c.in-Attribute.start c.args.rest.now)
