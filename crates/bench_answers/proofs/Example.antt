-- Document 01's example, computed.
use mathlib.Core.Path.{refl}
use Rattle.model.specs.Lists.{entries, any_of, all_of, disjoint, times, later, or_else, first_where, last_where, range_at, insert_early, insert_sorted, insert, remove_one, remove, replace_at, bound, sum, holder, spanned, in_union}
use Rattle.model.specs.Carving.{piece, past, walk, carve, pieces}
use Rattle.model.specs.Boot.{marked, in_frames, reserved_of, all_pieces, grown, left, pass, joined, join, used_slots, early, range_of, ranges, refusal, boot_refusal, booted}
use Rattle.model.specs.Requests.{refused, granted, counted, in_early, with_next, in_sorted, find, put_before, put_after, grant_from, entries_after, take_general, take_reserved, from_place, large_enough, by_count, from_grown, no_room_to_grow, grow, in_general, in_reserved, by_address}
use Rattle.model.specs.Returns.{sorted_of, sort}
use Rattle.model.specs.Rules.{rising, slotted, tidy, rules}
use Rattle.model.specs.Store.{zipped, slots_of, early_of, table_slots, slot_words, table_words, slots_in, load, early_in, length_in, words_in, record_of, words_of, kept_slot, emptied, all_zero, stored_in, store_rules}
use Rattle.model.specs.Calls.{no_entries, boot, answer, short_buffer, stored, keeps_rules, call, fresh, fresh_record}
use Rattle.lists.specs.Whole.{slots_at}
use Rattle.lines.specs.Words.{value_after, decimal_of}
use Rattle.bench_lines.specs.Commands.{alone, one_number, two_numbers, with_one, with_two, command_in, is_form, command_of}
use Rattle.bench_lines.specs.Lines.{lines_from}
use Rattle.bench_areas.specs.Areas.{same_kind, how_many}
use Rattle.bench_texts.specs.Texts.{digits_text, range_text, answer_line}
use Rattle.bench_lists.specs.ListLines.{entries_text, name_text, list_line}
use Rattle.bench_answers.specs.Answered.{first_state, collecting, calling, four_lines, answered, printed}
use Rattle.bench_answers.specs.Example.{Example}

pub example : Example
unfolding entries any_of all_of disjoint times later or_else first_where last_where range_at insert_early insert_sorted insert remove_one remove replace_at bound sum holder spanned in_union piece past walk carve pieces marked in_frames reserved_of all_pieces grown left pass joined join used_slots early range_of ranges refusal boot_refusal booted refused granted counted in_early with_next in_sorted find put_before put_after grant_from entries_after take_general take_reserved from_place large_enough by_count from_grown no_room_to_grow grow in_general in_reserved by_address sorted_of sort rising slotted tidy rules zipped slots_of early_of table_slots slot_words table_words slots_in load early_in length_in words_in record_of words_of kept_slot emptied all_zero stored_in store_rules no_entries boot answer short_buffer stored keeps_rules call fresh fresh_record slots_at value_after decimal_of alone one_number two_numbers with_one with_two command_in is_form command_of lines_from same_kind how_many digits_text range_text answer_line entries_text name_text list_line first_state collecting calling four_lines answered printed
example = refl
