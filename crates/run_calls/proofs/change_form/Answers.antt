-- `change_form`: booted or sorted.
use native.Mathlib.Omega.{arith}
use mathlib.Core.Path.{subst}
use mathlib.Core.List.{List}
use Prim.Native.Nat.{ℕ}
use Rattle.model.specs.Calls.{Gives}
use Rattle.rules.specs.Check.{answered_with}
use Rattle.boot_areas.specs.Boots.{boot_call_of}
use Rattle.run_calls.proofs.Making.{boot_in_list, areas_end, areas_part, boot_gives, sort_gives}
use Rattle.run_calls.proofs.change_form.Goals as goal

pub overflow_mul-from : goal.overflow_mul-from
overflow_mul-from c = omega (arith, areas_end _ _ _ (boot_in_list _ _ _ _ _ c.in-Boot.is c.requires.listed))

pub overflow_mul-to : goal.overflow_mul-to
overflow_mul-to c = omega (arith, areas_end _ _ _ (boot_in_list _ _ _ _ _ c.in-Boot.is c.requires.listed))

pub overflow_add-to : goal.overflow_add-to
overflow_add-to c = omega (arith, areas_end _ _ _ (boot_in_list _ _ _ _ _ c.in-Boot.is c.requires.listed))

pub offset_bounds-areas-from : goal.offset_bounds-areas-from
offset_bounds-areas-from c = omega (arith, areas_end _ _ _ (boot_in_list _ _ _ _ _ c.in-Boot.is c.requires.listed))

pub slice_bounds-boot_words-end : goal.slice_bounds-boot_words-end
slice_bounds-boot_words-end c = omega (arith, areas_end _ _ _ (boot_in_list _ _ _ _ _ c.in-Boot.is c.requires.listed))

pub returns-in-Boot : goal.returns-in-Boot
returns-in-Boot c = boot_gives c.args.areas.now c.in-Boot.is
    (subst (λ (xs : List ℕ). Gives (boot_call_of c.in-Boot.unit xs) c.args.a.now c.args.words.now (answered_with c.boot_words.result c.boot_words.new.a) c.args.words.now)
    (areas_part c.in-Boot.first c.in-Boot.count c.args.areas.now) (c.boot_words.ensures c.args.words.now c.requires.tested_value))

pub returns-in-Sort : goal.returns-in-Sort
returns-in-Sort c = sort_gives c.args.areas.now c.in-Sort.is c.sort_tested.ensures
