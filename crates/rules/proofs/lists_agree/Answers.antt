-- `lists_agree`: the four tables are the lists.
use mathlib.Core.Path.{◌∙◌}
use Rattle.rules.proofs.Split.{general_free_table, reserved_free_table, general_regions_table, reserved_regions_table, in_tables}
use Rattle.rules.proofs.lists_agree.Goals as goal

pub invariant_of-general_free : goal.invariant_of-general_free
invariant_of-general_free c = record { fits = (general_free_table c.args.a.now c.args.words.now c.requires.sorted_value c.requires.in_bounds c.requires.words_value).fits }

pub invariant_of-reserved_free : goal.invariant_of-reserved_free
invariant_of-reserved_free c = record { fits = (reserved_free_table c.args.a.now c.args.words.now c.requires.sorted_value c.requires.in_bounds c.requires.words_value).fits }

pub invariant_of-general_regions : goal.invariant_of-general_regions
invariant_of-general_regions c = record { fits = (general_regions_table c.args.a.now c.args.words.now c.requires.sorted_value c.requires.in_bounds c.requires.words_value).fits }

pub invariant_of-reserved_regions : goal.invariant_of-reserved_regions
invariant_of-reserved_regions c = record { fits = (reserved_regions_table c.args.a.now c.args.words.now c.requires.sorted_value c.requires.in_bounds c.requires.words_value).fits }

pub tables_agree-requires : goal.tables_agree-requires
tables_agree-requires c = record {
  general_free = (general_free_table c.args.a.now c.args.words.now c.requires.sorted_value c.requires.in_bounds c.requires.words_value).entries_tidy;
  reserved_free = (reserved_free_table c.args.a.now c.args.words.now c.requires.sorted_value c.requires.in_bounds c.requires.words_value).entries_tidy;
  general_regions = (general_regions_table c.args.a.now c.args.words.now c.requires.sorted_value c.requires.in_bounds c.requires.words_value).entries_tidy;
  reserved_regions = (reserved_regions_table c.args.a.now c.args.words.now c.requires.sorted_value c.requires.in_bounds c.requires.words_value).entries_tidy;
}

pub returns : goal.returns
returns c = c.tables_agree.ensures ∙ in_tables c.args.a.now c.args.words.now c.requires.sorted_value
