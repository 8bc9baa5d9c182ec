-- The entries of an allocator that stands open, by its form.
use mathlib.Core.Path.{◌≡◌, refl, sym, subst}
use mathlib.Core.Bool.{Bool, true, false, not}
use mathlib.Core.List.{List}
use Prim.Native.Nat.{ℕ}
use Rattle.model.specs.Lists.{Lists}
use Rattle.model.specs.Requests.{Result}
use Rattle.lists.specs.Whole.{lists_in, Ruled, Does}
use Rattle.lists.specs.declared.header.Header.{Header}
use Rattle.lists.specs.declared.header.HandedBack.{HandedBack}
use Rattle.lists.specs.Open.{lent, DoesOpen}

module _ (h : Header) (es ws : List ℕ) where
  pub ruled_words : h.sorted ≡ true → Ruled h (lent h.sorted es ws) → Ruled h ws
  unfolding lent
  ruled_words e u = subst (λ (b : Bool). Ruled h (lent b es ws)) e u

  pub ruled_slots : h.sorted ≡ false → Ruled h (lent h.sorted es ws) → Ruled h es
  unfolding lent
  ruled_slots e u = subst (λ (b : Bool). Ruled h (lent b es ws)) e u

  module _ (f : Lists → Result) (d : HandedBack) where
    pub does_words : {after : List ℕ} → h.sorted ≡ true → Does (f (lists_in h ws)) ws d after → DoesOpen f h es ws d es after
    unfolding lent
    does_words {after} e x = record {
      does = subst (λ (b : Bool). Does (f (lists_in h (lent b es ws))) (lent b es ws) d (lent b es after)) (sym e) x;
      kept = subst (λ (b : Bool). lent (not b) es after ≡ lent (not b) es ws) (sym e) refl;
    }

    pub does_slots : {after : List ℕ} → h.sorted ≡ false → Does (f (lists_in h es)) es d after → DoesOpen f h es ws d after ws
    unfolding lent
    does_slots {after} e x = record {
      does = subst (λ (b : Bool). Does (f (lists_in h (lent b es ws))) (lent b es ws) d (lent b after ws)) (sym e) x;
      kept = subst (λ (b : Bool). lent (not b) after ws ≡ lent (not b) es ws) (sym e) refl;
    }
