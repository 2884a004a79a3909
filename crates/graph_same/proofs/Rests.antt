-- What follows what a text begins with, and that nothing is left exactly of the same text.
use mathlib.Core.Bool.{◌&&◌}
use Rattle.std.proofs.Common.{◌≡◌, refl, ap, sym, ◌∙◌, List, [], ◌∷◌, ◌++◌, Bool, true, false, ℕ, Option, Some, None, Bor, MatchOption, option_map, ◌≢◌, eqb, length, arith}
use borrow.Author.Tests.{ne_eqb, eq-eqb, eqb-true}
use Rattle.rules.specs.Base.{pick, same}
use Rattle.graph_same.specs.Rest.{after, ended}

-- a text that begins with w,
pub follows : (w r : List ℕ) → after w (w ++ r) ≡ Some r
unfolding after pick
follows [] r = refl
follows (b ∷ w) r = rw (eq-eqb b b refl) (follows w r)

-- and one that does not
pub lost : (w P : List ℕ) → ((r : List ℕ) → P ≡ w ++ r → ⊥) → after w P ≡ None
unfolding after pick
lost [] P f = absurd (f P refl)
lost (b ∷ w) [] f = refl
lost (b ∷ w) (x ∷ P) f = go (lost w P) (eqb b x) refl
  where
    go : (((r : List ℕ) → P ≡ w ++ r → ⊥) → after w P ≡ None) → (t : Bool) → eqb b x ≡ t → pick t (after w P) None ≡ None
    go h true e = h (λ r q. f r (ap (λ k. k ∷ P) (sym (eqb-true b x e)) ∙ ap (λ (l : List ℕ). b ∷ l) q))
    go h false e = refl

-- nothing is left
pub whole : (w P : List ℕ) → ended (after w P) ≡ same w P
unfolding after pick same
whole [] [] = refl
whole [] (x ∷ P) = ne_eqb (length (x ∷ P)) 0 (λ e. absurd (omega (arith, e)))
whole (b ∷ w) [] = refl
whole (b ∷ w) (x ∷ P) = go (eqb b x) (whole w P)
  where
    go : (t : Bool) → ended (after w P) ≡ same w P → ended (pick t (after w P) None) ≡ t && same w P
    go true h = h
    go false h = refl

-- what `strip_prefix` answers
pub stripped : (P w : List ℕ) (r : Option (Bor (List ℕ))) → MatchOption r ((rest : List ℕ) → P ≢ w ++ rest) (λ x. P ≡ w ++ x.now) → option_map (λ t. t.now) r ≡ after w P
stripped P w None m = sym (lost w P m)
stripped P w (Some x) m = sym (ap (after w) m ∙ follows w x.now)
