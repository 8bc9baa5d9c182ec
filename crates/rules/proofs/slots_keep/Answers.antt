-- `slots_keep`: the slots as they are stored, then the rules of their pairs.
use mathlib.Core.Path.{sym, ap, ◌∙◌}
use Rattle.model.specs.Rules.{rules}
use Rattle.rules.specs.Check.{slot_lists}
use Rattle.rules.proofs.Early.{slots_broken, slots_are}
use Rattle.rules.proofs.slots_keep.Goals as goal

pub returns-then-is_plain_record : goal.returns-then-is_plain_record
returns-then-is_plain_record c = λ words.
    let s = c.is_plain_record.ensures.arrays c.if-is_plain_record.true in
    c.slots_ruled.ensures
    ∙ ap (λ ws. rules (slot_lists ws)) c.requires.slots_value
    ∙ slots_are c.args.a.now s.general_free s.reserved_free s.general_regions s.reserved_regions words c.requires.early (sym c.is_plain_record.ensures.plain ∙ c.if-is_plain_record.true)

pub returns-else-is_plain_record : goal.returns-else-is_plain_record
returns-else-is_plain_record c = λ words.
    c.if-is_plain_record.false ∙ slots_broken c.args.a.now words c.requires.early (sym c.is_plain_record.ensures.plain ∙ c.if-is_plain_record.false)
