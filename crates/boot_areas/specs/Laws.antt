-- Each form of a boot map keeps its laws: the areas that boot takes are the model's, and 2 refuses the same. They are proved here and not in
-- proofs/, since the fields of the traits `BootMap` and `MapArea` in src/ name them, and code names nothing of proofs/.
use Prim.Native.Nat.{ℕ}
use mathlib.Core.Path.{◌≡◌, refl, sym, ap, subst, ◌∙◌}
use mathlib.Core.Bool.{Bool, ◌||◌}
use mathlib.Core.List.{List, [], ◌∷◌, map}
use Rattle.memory_structs.specs.Range.{range, above_top, touched, bytes_out_of_bounds}
use Rattle.memory_structs.specs.declared.range.FrameRange.{FrameRange}
use Rattle.model.specs.Lists.{any_of}
use Rattle.model.specs.Boot as model
use Rattle.model.specs.Calls.{boot_call, boot_bytes_call, answer, boot, short_buffer}
use Rattle.model.specs.declared.Area.{Area}
use Rattle.model.specs.declared.ByteArea.{ByteArea}
use Rattle.model.specs.declared.Kind.{Kind}
use Rattle.model.specs.declared.Kind.TheVariants.{General, Reserved}
use Rattle.model.proofs.Boots.{bytes_below}
use Rattle.boot_areas.specs.declared.AreaUnit.{AreaUnit}
use Rattle.boot_areas.specs.declared.AreaUnit.TheVariants.{Frames, Bytes}
use Rattle.boot_areas.specs.declared.BootArea.{BootArea}
use Rattle.model.specs.Words.{kind_of_word}
use Rattle.boot_areas.specs.Areas.{triples, areas_in, byte_areas_in, frame_area, byte_area, boot_area, boot_byte_area, boot_areas, boot_byte_areas, area_of, read, extents, any_outside}
use Rattle.boot_areas.specs.Boots.{IsBoot, Bounded, boot_call_of}

-- what these areas are to the model
pub record Takes (xs : List BootArea) (es : List model.Extent) (outside : Bool) : Type 0 where
  pub extents_are : extents xs ≡ es
  pub outside_is : any_outside xs ≡ outside

range_of_holds : (k : Kind) (r : FrameRange) → model.range_of (model.marked k r) ≡ r
unfolding model.range_of model.marked
range_of_holds General r = refl
range_of_holds Reserved r = refl

pub frames_taken : (areas : List Area) → Takes (boot_areas areas) (model.in_frames areas) (any_of above_top (model.ranges (model.in_frames areas)))
unfolding frame_area extents any_outside model.in_frames model.ranges any_of
frames_taken [] = record { extents_are = refl; outside_is = refl }
frames_taken (a ∷ areas) =
    let rest = frames_taken areas in
    let r = range a.start a.end in
    record {
      extents_are = ap (λ (l : List model.Extent). model.marked a.kind r ∷ l) rest.extents_are;
      outside_is =
          ap (λ (b : Bool). above_top r || b) rest.outside_is
          ∙ ap (λ (x : FrameRange). above_top x || any_of above_top (model.ranges (model.in_frames areas))) (sym (range_of_holds a.kind r));
    }

pub bytes_taken : (areas : List ByteArea) → Takes (boot_byte_areas areas) (model.in_bytes areas) (model.any_out_of_bounds areas)
unfolding byte_area extents any_outside model.in_bytes model.any_out_of_bounds
bytes_taken [] = record { extents_are = refl; outside_is = refl }
bytes_taken (a ∷ areas) =
    let rest = bytes_taken areas in
    record {
      extents_are = ap (λ (l : List model.Extent). model.marked a.kind (touched a.address a.bytes) ∷ l) rest.extents_are;
      outside_is = ap (λ (b : Bool). bytes_out_of_bounds a.address a.bytes || b) rest.outside_is;
    }

-- what is read of words
module _ {A : Type 0} (f : ℕ → ℕ → ℕ → A) (taken : A → BootArea) (u : AreaUnit) (same : (x y k : ℕ) → area_of u x y k ≡ taken (f x y k)) where
  words_taken : (ws : List ℕ) → read u ws ≡ map taken (triples f ws)
  unfolding triples
  words_taken [] = refl
  words_taken (x ∷ []) = refl
  words_taken (x ∷ y ∷ []) = refl
  words_taken (x ∷ y ∷ k ∷ ws) = λ i. same x y k i ∷ words_taken ws i

pub words_frames : (ws : List ℕ) → read Frames ws ≡ boot_areas (areas_in ws)
unfolding area_of
words_frames ws = words_taken (λ s e k. record { start = s; end = e; kind = kind_of_word k }) boot_area Frames (λ x y k. refl) ws

pub words_bytes : (ws : List ℕ) → read Bytes ws ≡ boot_byte_areas (byte_areas_in ws)
unfolding area_of
words_bytes ws = words_taken (λ a b k. record { address = a; bytes = b; kind = kind_of_word k }) boot_byte_area Bytes (λ x y k. refl) ws

-- a boot of areas, in frames and in bytes
pub frames_boot : (areas : List Area) → IsBoot (boot_call areas) (boot_areas areas)
unfolding answer short_buffer model.boot_refusal
frames_boot areas =
    let t = frames_taken areas in
    record { answers = λ l. sym (λ i. boot (model.refusal (t.outside_is i) (t.extents_are i)) (t.extents_are i) l); no_buffer = refl }

pub bytes_boot : (areas : List ByteArea) → IsBoot (boot_bytes_call areas) (boot_byte_areas areas)
unfolding answer short_buffer model.byte_refusal
bytes_boot areas =
    let t = bytes_taken areas in
    record { answers = λ l. sym (λ i. boot (model.refusal (t.outside_is i) (t.extents_are i)) (t.extents_are i) l); no_buffer = refl }

pub frames_bounded : (areas : List Area) → Bounded (boot_areas areas)
frames_bounded areas e =
    let t = frames_taken areas in
    ap (λ (xs : List model.Extent). any_of above_top (model.ranges xs)) t.extents_are ∙ sym t.outside_is ∙ e

pub bytes_bounded : (areas : List ByteArea) → Bounded (boot_byte_areas areas)
bytes_bounded areas e =
    let t = bytes_taken areas in
    ap (λ (xs : List model.Extent). any_of above_top (model.ranges xs)) t.extents_are ∙ bytes_below areas (sym t.outside_is ∙ e)

-- of words: of what is read of them
pub frame_words_boot : (ws : List ℕ) → IsBoot (boot_call (areas_in ws)) (read Frames ws)
frame_words_boot ws = subst (IsBoot (boot_call (areas_in ws))) (sym (words_frames ws)) (frames_boot (areas_in ws))

pub byte_words_boot : (ws : List ℕ) → IsBoot (boot_bytes_call (byte_areas_in ws)) (read Bytes ws)
byte_words_boot ws = subst (IsBoot (boot_bytes_call (byte_areas_in ws))) (sym (words_bytes ws)) (bytes_boot (byte_areas_in ws))

pub words_boot : (u : AreaUnit) (ws : List ℕ) → IsBoot (boot_call_of u ws) (read u ws)
unfolding boot_call_of
words_boot Frames ws = frame_words_boot ws
words_boot Bytes ws = byte_words_boot ws

pub words_bounded : (u : AreaUnit) (ws : List ℕ) → Bounded (read u ws)
words_bounded Frames ws = subst (λ (xs : List BootArea). Bounded xs) (sym (words_frames ws)) (frames_bounded (areas_in ws))
words_bounded Bytes ws = subst (λ (xs : List BootArea). Bounded xs) (sym (words_bytes ws)) (bytes_bounded (byte_areas_in ws))
