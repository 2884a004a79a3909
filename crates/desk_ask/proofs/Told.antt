-- A reason that is none of the two refusals is told in words.
use Rattle.std.proofs.Common.{◌≡◌, refl, List, ℕ}
use Rattle.rules.specs.declared.Answer.{Answer}
use Rattle.explain.specs.declared.Reason.{Reason}
use Rattle.desk_tell.specs.Words.{why_words}
use Rattle.desk_page.specs.Pages.{on_out}
use Rattle.desk_ask.specs.Asked.{reason_page}

pub in_words : (T : List ℕ) (r : Reason) → ((a : Answer) → r ≡ Reason.Refused a → ⊥) → (r ≡ Reason.NoCell → ⊥) → reason_page T r ≡ on_out (why_words r)
in_words T (Reason.Refused a) f g = absurd (f a refl)
in_words T Reason.NoCell f g = absurd (g refl)
in_words T (Reason.Root k) f g = refl
in_words T (Reason.Under q) f g = refl
in_words T (Reason.Adopted m q) f g = refl
in_words T (Reason.Loose q) f g = refl
