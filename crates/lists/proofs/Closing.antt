-- What is closed: the slots are written, or stay.
use mathlib.Core.Path.{◌≡◌, sym, subst, ◌∙◌}
use mathlib.Core.Bool.{Bool, true, false, ◌&&◌}
use mathlib.Core.List.{List}
use Prim.Native.Nat.{ℕ}
use Rattle.model.specs.Store.{flag, is_set, early_of}
use Rattle.model.specs.declared.FrameAllocator.{FrameAllocator}
use Rattle.pairs.specs.Pairs.{pair_slots}
use Rattle.lists.specs.Whole.{part_at}
use Rattle.lists.specs.declared.header.Header.{Header}
use Rattle.lists.specs.Packed.{Unpackable, Closable, list_after, closed}

-- t is what the code's test says
pub to_unpack : {t b : Bool} {ws : List ℕ} → t ≡ b → t ≡ false → Closable b ws → Unpackable ws
unfolding Closable
to_unpack {ws = ws} is e u = subst (λ (b : Bool). Closable b ws) (sym is ∙ e) u

pub can_unpack : {b : Bool} {ws : List ℕ} → b ≡ false → Unpackable ws → Closable b ws
unfolding Closable
can_unpack {ws = ws} e u = subst (λ (b : Bool). Closable b ws) (sym e) u

pub no_unpack : {b : Bool} (ws : List ℕ) → b ≡ true → Closable b ws
unfolding Closable
no_unpack ws e = subst (λ (b : Bool). Closable b ws) (sym e) (tt {0})

module _ (a : FrameAllocator) (h : Header) (ws : List ℕ) where
  pub slots_written : (is_set a.sorted && h.sorted) ≡ false → closed a h ws ≡ record {
    sorted = flag h.sorted;
    general_free = early_of (pair_slots 32 (part_at 64 0 ws));
    reserved_free = early_of (pair_slots 32 (part_at 64 64 ws));
    general_regions = early_of (pair_slots 32 (part_at 64 128 ws));
    reserved_regions = early_of (pair_slots 32 (part_at 64 192 ws));
    general_free_len = h.general_free;
    reserved_free_len = h.reserved_free;
    general_regions_len = h.general_regions;
    reserved_regions_len = h.reserved_regions;
  }
  unfolding closed list_after
  slots_written e = rw e

  pub slots_kept : (is_set a.sorted && h.sorted) ≡ true → closed a h ws ≡ record {
    sorted = flag h.sorted;
    general_free = a.general_free;
    reserved_free = a.reserved_free;
    general_regions = a.general_regions;
    reserved_regions = a.reserved_regions;
    general_free_len = h.general_free;
    reserved_free_len = h.reserved_free;
    general_regions_len = h.general_regions;
    reserved_regions_len = h.reserved_regions;
  }
  unfolding closed list_after
  slots_kept e = rw e
