-- The turns of carving: the pieces so far, and the areas to come.
use Rattle.std.proofs.Common.{◌≡◌, ℕ, ◌+◌, ◌≤◌, ◌<◌, List, [], ◌∷◌, ◌++◌, length, get_or, take, drop, sym, ap, ◌∙◌, arith, add-one, drop-cons, length-append, append-nil}
use Rattle.std.proofs.lemmas.List.{take-append-le}
use mathlib.Core.List.{append_assoc}
use lib.ListN.{drop_of_length-le}
use Rattle.memory_structs.specs.declared.range.FrameRange.{FrameRange}
use Rattle.model.specs.Boot.{marked, all_pieces}
use Rattle.model.specs.Carving.{pieces}
use Rattle.model.specs.declared.Kind.TheVariants.{General, Reserved}
use Rattle.boot_areas.specs.declared.BootArea.{BootArea}
use Rattle.boot_areas.specs.Areas.{extents, pieces_in, no_area}

-- the pieces that were there, those of the areas carved so far, and those of the areas to come
abbrev pub Carving : List FrameRange → List BootArea → (start now : List FrameRange) → ℕ → Type 0
Carving rs xs before ps i = before ++ pieces_in rs xs ≡ ps ++ pieces_in rs (drop i xs)

module _ (xs : List BootArea) where
  module _ (i : ℕ) (end : length xs ≤ i) where
    none : drop i xs ≡ []
    none = drop_of_length-le xs {i = i} end

    pub carving_end : (rs before ps : List FrameRange) → Carving rs xs before ps i → ps ≡ before ++ pieces_in rs xs
    unfolding extents all_pieces
    carving_end rs before ps t = sym (t ∙ ap (λ (l : List BootArea). ps ++ pieces_in rs l) none ∙ append-nil ps)

  module _ (i : ℕ) (h : i < length xs) (a : BootArea) (is : a ≡ get_or xs i no_area) where
    here : drop i xs ≡ a ∷ drop (i + 1) xs
    here = rw (is, add-one) (drop-cons xs i no_area h)

    module _ (rs before ps : List FrameRange) (t : Carving rs xs before ps i) where
      pub carve_reserved : a.kind ≡ Reserved → Carving rs xs before ps (i + 1)
      unfolding extents marked all_pieces
      carve_reserved k = t ∙ ap (λ (l : List BootArea). ps ++ pieces_in rs l) here ∙ rw k

      module _ (k : a.kind ≡ General) where
        carved : before ++ pieces_in rs xs ≡ (ps ++ pieces rs a.frames) ++ pieces_in rs (drop (i + 1) xs)
        unfolding extents marked all_pieces
        carved = t ∙ ap (λ (l : List BootArea). ps ++ pieces_in rs l) here ∙ rw k (sym (append_assoc ps (pieces rs a.frames) (pieces_in rs (drop (i + 1) xs))))

        pub carve_general : (next : List FrameRange) → next ≡ ps ++ pieces rs a.frames → Carving rs xs before next (i + 1)
        carve_general next e = rw e carved

        pub carve_many : 32 < length (ps ++ pieces rs a.frames) → 32 < length (before ++ pieces_in rs xs)
        carve_many m = omega (arith, ap length carved, length-append (ps ++ pieces rs a.frames) (pieces_in rs (drop (i + 1) xs)))

        pub carve_first : 32 < length (ps ++ pieces rs a.frames) → take 32 (ps ++ pieces rs a.frames) ≡ take 32 (before ++ pieces_in rs xs)
        carve_first m = sym (ap (take 32) carved ∙ take-append-le 32 (ps ++ pieces rs a.frames) (pieces_in rs (drop (i + 1) xs)) (omega (arith, m)))
