-- The two lists that say which frames are held, in either form.
use Prim.Native.Nat.{ℕ}
use mathlib.Core.Path.{◌≡◌, refl, sym, ap, subst, subst₂, ◌∙◌}
use mathlib.Core.Bool.{Bool, true, false}
use mathlib.Core.List.{List}
use lib.ListN.{length}
use Rattle.model.specs.Lists.{Lists, Slot}
use Rattle.model.specs.Rules.{tidy, rules}
use Rattle.model.specs.Requests.{without_frames, counted}
use Rattle.model.specs.Returns.{sort}
use Rattle.model.specs.Queries.{held_list, held_runs, written}
use Rattle.memory_structs.specs.declared.range.FrameRange.{FrameRange}
use Rattle.model.specs.declared.Answer.{Answer}
use Rattle.model.proofs.Held.{slots_hidden, sort_holds}
use Rattle.model.proofs.Lawful.{Lawful}
use Rattle.model.proofs.Returns.{sort_step}
use Rattle.model.proofs.Ruled.{rules_lawful, lawful_rules}
use Rattle.lists.specs.declared.header.WhichList.{WhichList}
use Rattle.lists.specs.declared.header.WhichList.TheVariants.{GeneralFree, GeneralRegions}
use Rattle.lists.specs.declared.header.Header.{Header}
use Rattle.lists.specs.Whole.{lists_in, slots_at, Ruled}
use Rattle.lists.proofs.Whole.{tidy_list}
use Rattle.pairs.specs.Ordered.{in_order}
use Rattle.query_held.specs.Runs.{two_tables, HeldWritten}
use Rattle.query_core.specs.Listed.{Listed}

-- which frames are held hangs on two lists
two_listed : (l : Lists) → held_list (two_tables l.general_regions l.general_free) ≡ held_list l
unfolding two_tables
two_listed l = slots_hidden _ l (λ f. refl) (λ f. refl)

-- two lists, by equal names
pub two_same : {x x' y y' : List Slot} {n : ℕ} {before after : List ℕ} → x ≡ x' → y ≡ y' → HeldWritten (two_tables x y) n before after → HeldWritten (two_tables x' y') n before after
two_same {n = n} {before = before} {after = after} p q w = subst₂ (λ (x y : List Slot). HeldWritten (two_tables x y) n before after) p q w

-- each list of sorted lists that keep the rules
table_tidy : (l : Lists) → rules l ≡ true → l.sorted ≡ true → (w : WhichList) → tidy true (slots_at w l) ≡ true
table_tidy l r e w = subst (λ (b : Bool). tidy b (slots_at w l) ≡ true) e (tidy_list l r w)

-- lists with the same held list
written_same : (l m : Lists) → held_list l ≡ held_list m → {n : ℕ} {before after : List ℕ} → HeldWritten l n before after → HeldWritten m n before after
written_same l m e {before = before} w = record { counted = w.counted ∙ ap length e; buffer = w.buffer ∙ ap (λ (rs : List FrameRange). written rs before) e }

-- sorted form: the tables are the lists
pub sorted_written : (h : Header) (ws : List ℕ) {x y : List Slot} {n : ℕ} {before after : List ℕ}
    → x ≡ slots_at GeneralRegions (lists_in h ws) → y ≡ slots_at GeneralFree (lists_in h ws)
    → HeldWritten (two_tables x y) n before after → HeldWritten (lists_in h ws) n before after
unfolding slots_at
sorted_written h ws p q w = written_same _ (lists_in h ws) (two_listed (lists_in h ws)) (two_same p q w)

module _ (h : Header) (ws : List ℕ) (u : Ruled h ws) where
  lawful : Lawful (lists_in h ws)
  lawful = rules_lawful (lists_in h ws) u.keeps

  -- early form: the slots in order, as a sort has them
  module _ (e : h.sorted ≡ false) where
    abbrev after_sort : Lists
    after_sort = (sort (lists_in h ws)).lists

    regions_ordered : after_sort.general_regions ≡ in_order (slots_at GeneralRegions (lists_in h ws))
    unfolding sort counted lists_in slots_at
    regions_ordered = rw e

    chunks_ordered : after_sort.general_free ≡ in_order (slots_at GeneralFree (lists_in h ws))
    unfolding sort counted lists_in slots_at
    chunks_ordered = rw e

    then_sorted : after_sort.sorted ≡ true
    unfolding sort counted lists_in
    then_sorted = rw e

    then_ruled : rules after_sort ≡ true
    then_ruled = lawful_rules after_sort (sort_step (lists_in h ws) lawful).lawful

    pub regions_in_order : tidy true (in_order (slots_at GeneralRegions (lists_in h ws))) ≡ true
    unfolding slots_at
    regions_in_order = sym (ap (tidy true) regions_ordered) ∙ table_tidy after_sort then_ruled then_sorted GeneralRegions

    pub chunks_in_order : tidy true (in_order (slots_at GeneralFree (lists_in h ws))) ≡ true
    unfolding slots_at
    chunks_in_order = sym (ap (tidy true) chunks_ordered) ∙ table_tidy after_sort then_ruled then_sorted GeneralFree

    pub early_written : {x y : List Slot} {n : ℕ} {before after : List ℕ}
        → x ≡ slots_at GeneralRegions (lists_in h ws) → y ≡ slots_at GeneralFree (lists_in h ws)
        → HeldWritten (two_tables (in_order x) (in_order y)) n before after → HeldWritten (lists_in h ws) n before after
    early_written p q w =
        written_same _ (lists_in h ws) (two_listed after_sort ∙ sort_holds (lists_in h ws)) (two_same (ap in_order p ∙ sym regions_ordered) (ap in_order q ∙ sym chunks_ordered) w)

-- their number is the count
pub is_listed : {l : Lists} {n : ℕ} {before after : List ℕ} → HeldWritten l n before after → {x : Answer} → x ≡ without_frames 0 n → Listed l before x after
unfolding held_runs counted
is_listed w e = record { answers = e ∙ ap (λ (m : ℕ). without_frames 0 m) w.counted; buffer = w.buffer }
