-- Arguments are read from the left: what one makes of what is read, those after it go on from.
use Rattle.std.proofs.Common.{◌≡◌, List, ◌∷◌, ℕ, Ok, Err, Some, None}
use Rattle.desk_words.specs.Words.{word_in}
use Rattle.desk_words.specs.declared.Word.{Word}
use Rattle.desk_line.specs.Line.{Sofar, Fault, begun, line, step, folded, line_of}

module _ (w : Word) (s : Sofar) {a : List ℕ} {all more : List (List ℕ)} (p : all ≡ a ∷ more) where
  pub stopped : {e : Fault} → Err e ≡ step w s a → line (Some w) (Some e) s ≡ folded w s all
  unfolding folded
  stopped q = rw (p, ← q)

  pub gone_on : {t : Sofar} → Ok t ≡ step w s a → folded w s all ≡ folded w t more
  unfolding folded
  gone_on q = rw (p, ← q)

module _ {a : List ℕ} {all more : List (List ℕ)} (p : all ≡ a ∷ more) where
  pub no_such_word : None ≡ word_in a → line None (Some (Fault.word a)) begun ≡ line_of all
  unfolding line_of
  no_such_word q = rw (p, ← q)

  pub worded : {k : Word} → Some k ≡ word_in a → folded k begun more ≡ line_of all
  unfolding line_of
  worded w = rw (p, ← w)
