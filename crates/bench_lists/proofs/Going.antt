-- Entries put one after another, as a loop puts them.
use native.Mathlib.Omega.{arith}
use Prim.Native.Nat.{ℕ, zero, suc, ◌+◌, ◌*◌, ◌≤◌, ◌<◌}
use mathlib.Core.Path.{◌≡◌, refl, sym, ap, subst, ◌∙◌}
use mathlib.Core.Bool.{Bool, true, false, true≢false}
use mathlib.Core.List.{List, [], ◌∷◌, ◌++◌, append_assoc, append-nil}
use lib.ListN.{length, drop, length-append}
use borrow.Author.Tests.{ltb-true}
use Rattle.memory_structs.specs.Range.{is_empty}
use Rattle.memory_structs.specs.declared.range.FrameRange.{FrameRange}
use Rattle.model.specs.Lists.{Lists, Slot, unused, used, entries, range_at, bound}
use Rattle.model.specs.Rules.{rules}
use Rattle.model.proofs.Lawful.{AllSound}
use Rattle.model.proofs.Ruled.{tidy_is}
use Rattle.lists.specs.Part.{IsPart, pairs_in}
use Rattle.lists.specs.Listed.{lists_of}
use Rattle.lists.specs.Whole.{slots_at}
use Rattle.lists.proofs.Forms.{sorted_length, early_length}
use Rattle.lists.proofs.Whole.{tidy_list}
use Rattle.lists.specs.declared.four_lists.FourLists.{FourLists}
use Rattle.lists.specs.declared.header.WhichList.{WhichList}
use Rattle.lists.specs.declared.header.WhichList.TheVariants.{GeneralFree, ReservedFree, GeneralRegions, ReservedRegions}
use Rattle.bench_texts.specs.Texts.{line_end_text}
use Rattle.bench_texts.proofs.Decimal.{range_length, after_text}
use Rattle.bench_lists.specs.ListLines.{entry_opening, entry_closing, entry_room, entries_room, entry_text, entries_text, name_text, list_line, line_of, line_room}

-- i entries at most have been put, and with the ones that are left it is all of them
pub record Going (whole left : List FrameRange) (before : List ℕ) (i : ℕ) (out : List ℕ) : Type 0 where
  pub size : length out ≤ length before + entry_room * i
  pub rest : out ++ entries_text left ≡ before ++ entries_text whole

pub going_starts : (whole : List FrameRange) (before : List ℕ) → Going whole whole before 0 before
going_starts whole before = record { size = omega arith; rest = refl }

module _ {whole left : List FrameRange} {before out : List ℕ} {i : ℕ} where
  pub going_on : {r : FrameRange} {after : List ℕ} → Going whole (r ∷ left) before i out → after ≡ out ++ entry_text r → Going whole left before (i + 1) after
  unfolding entries_text
  going_on {r} g put = record {
    size = omega (arith, g.size, after_text (entry_text r) out put, range_length entry_opening entry_closing r);
    rest = ap (λ (t : List ℕ). t ++ entries_text left) put ∙ append_assoc out (entry_text r) (entries_text left) ∙ g.rest;
  }

  pub going_past : Going whole left before i out → Going whole left before (i + 1) out
  going_past g = record { size = omega (arith, g.size); rest = g.rest }

  pub going_ends : Going whole left before i out → left ≡ [] → out ≡ before ++ entries_text whole
  unfolding entries_text
  going_ends g none = sym (append-nil out) ∙ ap (λ (rs : List FrameRange). out ++ entries_text rs) (sym none) ∙ g.rest

-- the same, at equal bytes
pub moved : {whole left : List FrameRange} {before out after : List ℕ} {i : ℕ} → after ≡ out → Going whole left before i out → Going whole left before i after
moved {whole} {left} {before} {i = i} e g = subst (λ (x : List ℕ). Going whole left before i x) (sym e) g

-- ---- slot by slot: a slot whose range is empty is no entry, and each entry has a frame

pub past : (s : List Slot) (i : ℕ) → AllSound s → is_empty (range_at s i) ≡ true → entries (drop i s) ≡ entries (drop (suc i) s)
unfolding entries range_at AllSound
past [] zero a e = refl
past [] (suc i) a e = refl
past (unused ∷ s) zero a e = refl
past (used r ∷ s) zero a e = let f : r.start ≤ r.end = a.0.filled in absurd (omega (arith, ltb-true r.end r.start e))
past (unused ∷ s) (suc i) a e = past s i a e
past (used r ∷ s) (suc i) a e = past s i a.1 e

pub here : (s : List Slot) (i : ℕ) → i < length s → is_empty (range_at s i) ≡ false → entries (drop i s) ≡ range_at s i ∷ entries (drop (suc i) s)
unfolding entries range_at
here [] i h e = absurd (omega arith)
here (unused ∷ s) zero h e = absurd (true≢false e)
here (used r ∷ s) zero h e = refl
here (unused ∷ s) (suc i) h e = here s i (omega arith) e
here (used r ∷ s) (suc i) h e = here s i (omega arith) e

-- a list has at most 512 slots
pub slots_few : {b : Bool} {n : ℕ} {ws : List ℕ} → IsPart b n ws → length (pairs_in b n ws) ≤ 512
slots_few {b} {n} {ws} t = go b refl
  where
    go : (x : Bool) → b ≡ x → length (pairs_in b n ws) ≤ 512
    go true e = omega (arith, sorted_length t e, t.few)
    go false e = omega (arith, early_length t e)

-- no list has more entries than a table
bounded : (b : Bool) → bound b ≤ 512
unfolding bound
bounded true = omega arith
bounded false = omega arith

pub few : (l : Lists) (w : WhichList) → rules l ≡ true → length (entries (slots_at w l)) ≤ 512
few l w e = omega (arith, (tidy_is l.sorted (slots_at w l) (tidy_list l e w)).few, bounded l.sorted)

-- so many entries have room
entries_length : (rs : List FrameRange) → length (entries_text rs) ≤ entry_room * length rs
unfolding entries_text
entries_length [] = omega arith
entries_length (r ∷ rs) =
    omega (arith, length-append (entry_text r) (entries_text rs), range_length entry_opening entry_closing r, entries_length rs)

pub name_length : (w : WhichList) → length (name_text w) ≤ 17
unfolding name_text
name_length GeneralFree = omega arith
name_length ReservedFree = omega arith
name_length GeneralRegions = omega arith
name_length ReservedRegions = omega arith

-- so has the line of a list that keeps the rules
pub line_few : (l : Lists) (w : WhichList) → rules l ≡ true → length (line_of w l) ≤ line_room
unfolding list_line
line_few l w ruled =
    let rs = entries (slots_at w l) in
    let count : length rs ≤ 512 = few l w ruled in
    let named : length (list_line w rs) ≡ length (name_text w) + (length (entries_text rs) + 2) = length-append (name_text w) (entries_text rs ++ line_end_text) ∙ ap (◌+◌ (length (name_text w))) (length-append (entries_text rs) line_end_text) in
    omega (arith, named, name_length w, entries_length rs)

pub line_within : (l : Lists) (w : WhichList) (before : List ℕ) {after : List ℕ} → rules l ≡ true → after ≡ before ++ line_of w l → length after ≤ length before + line_room
line_within l w before ruled put = omega (arith, after_text (line_of w l) before put, line_few l w ruled)

-- the entries of one of the lists are those of the list, and take no more than their room
module _ (l : FourLists) (w : WhichList) {s : List Slot} (e : s ≡ slots_at w (lists_of l)) (before : List ℕ) {after : List ℕ} (put : after ≡ before ++ entries_text (entries s)) where
  pub own_entries : after ≡ before ++ entries_text (entries (slots_at w (lists_of l)))
  own_entries = put ∙ ap (λ (x : List Slot). before ++ entries_text (entries x)) e

  pub own_within : length after ≤ length before + entries_room
  own_within =
      omega (
        arith,
        after_text (entries_text (entries (slots_at w (lists_of l)))) before own_entries,
        entries_length (entries (slots_at w (lists_of l))),
        few (lists_of l) w l.ruled.keeps,
      )
