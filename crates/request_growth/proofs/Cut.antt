-- `grow_tail`, step by step: the last chunk is cut, then the tail becomes a region.
use Prim.Native.Nat.{ℕ, ◌+◌, ◌-◌, ◌≤◌, ◌<◌}
use native.Mathlib.Omega.{arith}
use mathlib.Core.Path.{◌≡◌, refl, sym, ap, subst, ◌∙◌}
use mathlib.Core.Bool.{Bool, true}
use mathlib.Core.List.{List, ◌++◌}
use lib.ListN.{length, drop}
use lib.Seq.{drop-drop, drop_at}
use Rattle.memory_structs.specs.Range.{range}
use Rattle.memory_structs.specs.declared.range.FrameRange.{FrameRange}
use Rattle.model.specs.Lists.{Lists, Slot, entries, range_at, insert, bound}
use Rattle.model.specs.Requests.{missing, find, grow}
use Rattle.model.specs.Rules.{tidy}
use Rattle.model.proofs.Lawful.{Lawful, Fit, find_fit}
use Rattle.model.proofs.Ruled.{tidy_is, rules_lawful}
use Rattle.model.proofs.Stored.{Storable}
use Rattle.model.proofs.Whole.{storables}
use Rattle.lists.specs.declared.header.Header.{Header}
use Rattle.lists.specs.declared.header.HandedBack.{HandedBack}
use Rattle.lists.specs.declared.header.WhichList.TheVariants.{ReservedFree, ReservedRegions}
use Rattle.lists.specs.Part.{width, part_words}
use Rattle.lists.specs.Whole.{lists_in, four, entries_of, with_slots, Ruled, Does}
use Rattle.lists.proofs.Forms.{stored_size}
use Rattle.lists.proofs.Again.{lists_again, ruled_again}
use Rattle.request_search.specs.declared.Chosen.{Chosen}
use Rattle.request_search.proofs.Grown.{TailGrown, tail_grown}
use Rattle.request_grants.specs.Grants.{Chooses, grant_of, entries_left}
use Rattle.request_grants.proofs.Entries.{all_used}
use Rattle.request_search.specs.Searches.{one_chunk}
use Rattle.request_taking.specs.Takes.{granted_with, AllStored}
use Rattle.request_taking.proofs.Taken.{does_grant}
use Rattle.request_growth.proofs.Growing.{Open, tidy_chunks, room_regions_holds}
use Rattle.request_growth.proofs.Tail.{LastChunk, missing_sorted, tail_chooses, tail_left, tail_growth, cut_lawful}

-- what stands after four parts
past_four : (k : ℕ) (p q r s z : List ℕ) → length p ≡ k → length q ≡ k → length r ≡ k → length s ≡ k → drop (four k) (p ++ (q ++ (r ++ (s ++ z)))) ≡ z
past_four k p q r s z np nq nr ns =
    let all : List ℕ = p ++ (q ++ (r ++ (s ++ z))) in
    let two : drop (k + k) all ≡ r ++ (s ++ z) = sym (drop-drop k k all) ∙ ap (drop k) (drop_at p (q ++ (r ++ (s ++ z))) k np) ∙ drop_at q (r ++ (s ++ z)) k nq in
    let three : drop (k + k + k) all ≡ s ++ z = sym (drop-drop k (k + k) all) ∙ ap (drop k) two ∙ drop_at r (s ++ z) k nr in
    sym (drop-drop k (k + k + k) all) ∙ ap (drop k) three ∙ drop_at s z k ns

-- lists stored over others leave nothing of them
stored_over : (l m : Lists) → Lawful m → l.sorted ≡ m.sorted → (ws : List ℕ) → entries_of l (entries_of m ws) ≡ entries_of l ws
unfolding entries_of
stored_over l m a e ws =
    let b : Bool = m.sorted in
    let t : drop (four (width b)) (entries_of m ws) ≡ drop (four (width b)) ws =
    past_four (width b) (part_words b m.general_free) (part_words b m.reserved_free) (part_words b m.general_regions) (part_words b m.reserved_regions) (drop (four (width b)) ws)
    (stored_size (storables m a).general_free) (stored_size (storables m a).reserved_free) (stored_size (storables m a).general_regions) (stored_size (storables m a).reserved_regions) in
    let u : drop (four (width l.sorted)) (entries_of m ws) ≡ drop (four (width l.sorted)) ws = subst (λ (c : Bool). drop (four (width c)) (entries_of m ws) ≡ drop (four (width c)) ws) (sym e) t in
    ap (λ (x : List ℕ). part_words l.sorted l.general_free ++ (part_words l.sorted l.reserved_free ++ (part_words l.sorted l.general_regions ++ (part_words l.sorted l.reserved_regions ++ x)))) u

module _ (h : Header) (ws : List ℕ) (u : Ruled h ws) (from : ℕ) (asked : FrameRange) (m : find (lists_in h ws).sorted asked (lists_in h ws).reserved_free ≡ missing from ((asked.end + 1) - from)) where
  abbrev l : Lists
  l = lists_in h ws

  abbrev s : List Slot
  s = (lists_in h ws).reserved_free

  abbrev r : FrameRange
  r = asked

  abbrev g : FrameRange
  g = range from asked.end

  lawful : Lawful l
  lawful = rules_lawful (lists_in h ws) u.keeps

  pub in_sorted_holds : l.sorted ≡ true
  in_sorted_holds = missing_sorted l r from ((asked.end + 1) - from) lawful m

  tidied : tidy true s ≡ true
  tidied = subst (λ (b : Bool). tidy b s ≡ true) in_sorted_holds (tidy_chunks h ws u)

  -- the tail has a frame
  pub tail_filled : from ≤ asked.end
  unfolding Fit
  tail_filled = let fit = subst (Fit l.sorted r s) m (find_fit l.sorted r s lawful.shape_rf) in omega (arith, fit.2)

  tail : TailGrown r s g
  unfolding Fit
  tail =
      let fit = subst (Fit l.sorted r s) m (find_fit l.sorted r s lawful.shape_rf) in
      let last : from + ((asked.end + 1) - from) - 1 ≡ asked.end = omega (arith, fit.2) in
      subst (λ (n : ℕ). TailGrown r s (range from n)) last (tail_grown r s from ((asked.end + 1) - from) tidied (subst (λ (b : Bool). find b r s ≡ missing from ((asked.end + 1) - from)) in_sorted_holds m))

  storable : Storable true s
  storable = subst (λ (b : Bool). Storable b s) in_sorted_holds (storables l lawful).reserved_free

  -- the last place
  module _ (n : ℕ) (e : n ≡ length (entries s)) where
    pub some_chunk : 0 < n
    some_chunk = omega (arith, e, tail.last, all_used storable)

    pub has_last : n - 1 < length s
    has_last = omega (arith, e, some_chunk, all_used storable)

    pub last_is : (c : Chosen) → c ≡ one_chunk (n - 1) (range_at s (n - 1)) → LastChunk s c
    last_is c p =
        subst (LastChunk s) (sym p) (record { last = omega (arith, e, some_chunk, all_used storable); one = refl; is = refl })

  -- the last chunk, cut
  module _ (c : Chosen) (k : LastChunk s c) where
    pub cut_chooses : Chooses l.sorted s c (range asked.start c.range.end)
    cut_chooses = subst (λ (b : Bool). Chooses b s c (range asked.start c.range.end)) (sym in_sorted_holds) (tail_chooses s r g tidied tail c k)

    pub cut_fits : entries_left l.sorted c (range asked.start c.range.end) s ≤ bound l.sorted
    cut_fits =
        subst (λ (b : Bool). entries_left b c (range asked.start c.range.end) s ≤ bound b) (sym in_sorted_holds) (tail_left s r g tidied tail c k (tidy_is true s tidied).few storable)

    abbrev cut : Lists
    cut = with_slots ReservedFree l (grant_of l.sorted c (range asked.start c.range.end) s)

    cut_is_lawful : Lawful cut
    cut_is_lawful = cut_lawful l c (range asked.start c.range.end) lawful cut_chooses k.one k.is cut_fits

    module _ {b : Header} {mid : List ℕ} (x : AllStored cut ws b mid) where
      pub cut_ruled : Ruled b mid
      unfolding with_slots lists_in
      cut_ruled = subst (λ (y : List ℕ). Ruled b y) (sym x.words) (subst (λ (y : Header). Ruled y (entries_of cut ws)) (sym x.header) (ruled_again cut cut_is_lawful ws u.long))

      cut_loads : lists_in b mid ≡ cut
      cut_loads = (λ i. lists_in (x.header i) (x.words i)) ∙ lists_again cut cut_is_lawful ws

      module _ (o : Open l g) where
        pub cut_room : length (entries (lists_in b mid).reserved_regions) < bound (lists_in b mid).sorted
        unfolding with_slots
        cut_room = subst (λ (y : Lists). length (entries y.reserved_regions) < bound y.sorted) (sym cut_loads) (room_regions_holds l o.room)

        -- the tail, a region
        abbrev done : Lists
        done = with_slots ReservedRegions cut (insert l.sorted g l.reserved_regions)

        pub tail_done : {d : Header} {after : List ℕ} → AllStored (with_slots ReservedRegions (lists_in b mid) (insert (lists_in b mid).sorted g (lists_in b mid).reserved_regions)) mid d after →
            (called : HandedBack) → called ≡ granted_with r d → Does (grow l g r) ws called after
        unfolding with_slots
        tail_done {d = d} {after = after} y called e =
            let z : AllStored done mid d after = subst (λ (q : Lists). AllStored (with_slots ReservedRegions q (insert q.sorted g q.reserved_regions)) mid d after) cut_loads y in
            let v : AllStored done ws d after = record { header = z.header; words = z.words ∙ ap (entries_of done) x.words ∙ stored_over done cut cut_is_lawful refl ws } in
            does_grant r called e v (grow l g r) (tail_growth l r g tail tidied in_sorted_holds c k o)
