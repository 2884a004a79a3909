-- What putting texts into a sink means: a word for contracts, no rule.
use Rattle.std.specs.Prelude.{List, [], ◌++◌, ℕ, ◌+◌, ◌≤◌, length}

-- A sink has a relation between what it was, a text, and what it is once that is put, and a fact that so many bytes may be put.
-- No text changes nothing; texts one after another are put together; and where many may be put, so may fewer, and the rest after some of them.
pub record SinkLaws {S : Type 0} (fits : ℕ → S → Type 0) (puts : List ℕ → S → S → Type 0) : Type 0 where
  pub none : (s : S) → puts [] s s
  pub more : (a b : List ℕ) (s t u : S) → puts a s t → puts b t u → puts (a ++ b) s u
  pub fewer : (m n : ℕ) (s : S) → m ≤ n → fits n s → fits m s
  pub rest : (a : List ℕ) (n : ℕ) (s t : S) → puts a s t → fits (length a + n) s → fits n t
