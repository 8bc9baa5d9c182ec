-- `allocate_from_chosen_chunk`: the grant of the list's form.
use mathlib.Core.Path.{◌≡◌, sym, subst, ◌∙◌}
use mathlib.Core.Bool.{Bool}
use mathlib.Core.List.{List}
use Prim.Native.Nat.{◌≤◌}
use Rattle.model.specs.Lists.{Slot, bound}
use Rattle.model.specs.Rules.{tidy}
use Rattle.lists.specs.Part.{part_slots}
use Rattle.lists.proofs.Forms.{as_table, as_pairs, at_sorted, at_early, sorted_after, early_after}
use Rattle.memory_structs.specs.declared.range.FrameRange.{FrameRange}
use Rattle.request_search.specs.declared.Chosen.{Chosen}
use Rattle.request_grants.specs.Grants.{Chooses, grant_of, entries_left}
use Rattle.request_grants.proofs.allocate_from_chosen_chunk.Goals as goal

-- what was asked for, in the form that the list has
abbrev Asked : Chosen → FrameRange → Bool → List Slot → Type 0
Asked k r b x = Chooses b x k r × (entries_left b k r x ≤ bound b)

pub allocate_from_table-requires : goal.allocate_from_table-requires
unfolding bound
allocate_from_table-requires c =
    let asked : (b : Bool) (x : List Slot) → ◌≡◌ {A = Bool × List Slot} (c.args.part.sorted, part_slots c.args.part c.args.t.now) (b, x) → Asked c.args.chosen c.args.asked b x = λ b. λ x. λ e. subst (λ (p : Bool × List Slot). Asked c.args.chosen c.args.asked p.0 p.1) e (c.requires.chooses, c.requires.t_bound) in
    let a = c.args in
    let e = c.if-part.true in
    let k = asked _ _ (at_sorted (λ b x. (b, x)) a.part.len a.t.now e) in record {
      table = as_table c.requires.tidy.part e;
      t_value = sym (at_sorted tidy a.part.len a.t.now e) ∙ c.requires.tidy.keeps;
      chooses = k.0;
      t_bound = k.1;
    }

pub returns-then-part : goal.returns-then-part
returns-then-part c = let a = c.args in
    sorted_after (λ b x. grant_of b a.chosen a.asked x) c.requires.tidy.part c.if-part.true c.allocate_from_table.ensures.counted c.allocate_from_table.ensures.written

pub allocate_from_slots-requires : goal.allocate_from_slots-requires
allocate_from_slots-requires c =
    let asked : (b : Bool) (x : List Slot) → ◌≡◌ {A = Bool × List Slot} (c.args.part.sorted, part_slots c.args.part c.args.t.now) (b, x) → Asked c.args.chosen c.args.asked b x = λ b. λ x. λ e. subst (λ (p : Bool × List Slot). Asked c.args.chosen c.args.asked p.0 p.1) e (c.requires.chooses, c.requires.t_bound) in
    let a = c.args in
    let e = c.if-part.false in record {
      pairs = as_pairs c.requires.tidy.part e;
      t_value = sym (at_early tidy a.part.len a.t.now e) ∙ c.requires.tidy.keeps;
      chooses = (asked _ _ (at_early (λ b x. (b, x)) a.part.len a.t.now e)).0;
    }

pub returns : goal.returns
returns c = let a = c.args in
    early_after (λ b x. grant_of b a.chosen a.asked x) c.requires.tidy.part c.if-part.false c.allocate_from_slots.ensures
