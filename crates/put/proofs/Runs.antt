-- A list put entry by entry, where most entries are put as they stand: these go in runs.
use Rattle.std.proofs.Common.{◌≡◌, refl, ap, sym, ◌∙◌, List, [], ◌∷◌, ◌++◌, ℕ, ◌+◌, ◌-◌, ◌≤◌, ◌<◌, length, get_or, take, drop, arith, append-nil, length-drop, take-append-drop}
use Rattle.std.proofs.lemmas.List.{take_more, take_all, drop_more, drop-drop, get_or-drop}
use Rattle.rules.specs.Base.{concat}
use Rattle.rules.proofs.Lists.{concat_append}

-- the run of s from `from` to i
abbrev pub run : List ℕ → ℕ → ℕ → List ℕ
run s from i = take (i - from) (drop from s)

-- its entries are put as they stand
abbrev pub Plain : (ℕ → List ℕ) → List ℕ → ℕ → ℕ → Type 0
Plain f s from i = concat f (run s from i) ≡ run s from i

module _ (f : ℕ → List ℕ) (s : List ℕ) where
  -- an empty run
  pub plain_none : (from i : ℕ) → i ≡ from → Plain f s from i
  unfolding concat
  plain_none from i e = let z : i - from ≡ 0 = omega arith in rw (z) refl

  -- what is left from `from` on: the run, and what is left after it
  run_rest : (from i : ℕ) → from ≤ i → drop from s ≡ run s from i ++ drop i s
  run_rest from i h =
      let e : from + (i - from) ≡ i = omega arith in
      sym (take-append-drop (i - from) (drop from s)) ∙ ap (λ l. run s from i ++ l) (drop-drop (i - from) from s ∙ ap (λ k. drop k s) e)

  pub rest_some : (from i : ℕ) → from ≤ i → i < length s → Plain f s from i
      → concat f (drop from s) ≡ run s from i ++ (f (get_or s i 0) ++ concat f (drop (i + 1) s))
  unfolding concat
  rest_some from i h g p =
      ap (concat f) (run_rest from i h) ∙ concat_append f (run s from i) (drop i s)
      ∙ rw (p, drop_more s i 0 g)

  -- one more entry that is put as it stands
  pub plain_more : (from i : ℕ) → from ≤ i → i < length s → f (get_or s i 0) ≡ get_or s i 0 ∷ [] → Plain f s from i → Plain f s from (i + 1)
  unfolding concat
  plain_more from i h g e p =
      let n : i + 1 - from ≡ i - from + 1 = omega arith in
      let m : from + (i - from) ≡ i = omega arith in
      let q : run s from (i + 1) ≡ run s from i ++ (get_or s i 0 ∷ []) =
      ap (λ k. take k (drop from s)) n ∙ take_more (drop from s) (i - from) 0 (omega (arith, length-drop from s))
      ∙ ap (λ b. run s from i ++ (b ∷ [])) (get_or-drop from s (i - from) 0 ∙ ap (λ k. get_or s k 0) m) in
      rw (q) (concat_append f (run s from i) (get_or s i 0 ∷ []) ∙ rw (p, e, append-nil) refl)

  -- the last run
  pub rest_none : (from i : ℕ) → i ≡ length s → Plain f s from i → concat f (drop from s) ≡ drop from s
  rest_none from i e p =
      let w : run s from i ≡ drop from s = take_all (i - from) (drop from s) (omega (arith, length-drop from s)) in
      rw w at p
