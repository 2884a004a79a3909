-- A word or an option is the one that its letters spell.
use Rattle.std.proofs.Common.{◌≡◌, refl, List, Bool, true, false, ℕ, Option, Some, None}
use mathlib.Core.Logic.{◌↔◌}
use Rattle.std.proofs.lemmas.Option.{none-some}
use Rattle.rules.specs.Base.{same, pick, concat}
use Rattle.rules.specs.Utf8.{utf8}
use Rattle.rules.specs.Lines.{letters, bytes}
use Rattle.rules.proofs.Accepts.{same_true}
use Rattle.desk_words.specs.Words.{word_in, option_in}
use Rattle.desk_words.specs.declared.Word.{Word}
use Rattle.desk_words.specs.declared.Opt.{Opt}

-- another list is not the same
other : (a b : List ℕ) → (a ≡ b → ⊥) → same a b ≡ false
other a b h = go (same a b) refl
  where
    go : (t : Bool) → same a b ≡ t → t ≡ false
    go true e = absurd (h (same_true a b e))
    go false e = refl

pub word_named : (a : List ℕ) (r : Option Word) → (r ≡ Some Word.Draw) ↔ (a ≡ bytes "draw") → (r ≡ Some Word.Sheets) ↔ (a ≡ bytes "sheets")
    → (r ≡ Some Word.Graph) ↔ (a ≡ bytes "graph") → (r ≡ Some Word.Json) ↔ (a ≡ bytes "json") → (r ≡ Some Word.Read) ↔ (a ≡ bytes "read")
    → (r ≡ Some Word.Check) ↔ (a ≡ bytes "check") → (r ≡ Some Word.Why) ↔ (a ≡ bytes "why") → (r ≡ Some Word.Fits) ↔ (a ≡ bytes "fits")
    → (r ≡ Some Word.Help) ↔ (a ≡ bytes "help") → r ≡ word_in a
unfolding word_in same pick bytes concat letters utf8
word_named a (Some Word.Draw) d s g j r c w f h = rw (d.0 refl)
word_named a (Some Word.Sheets) d s g j r c w f h = rw (s.0 refl)
word_named a (Some Word.Graph) d s g j r c w f h = rw (g.0 refl)
word_named a (Some Word.Json) d s g j r c w f h = rw (j.0 refl)
word_named a (Some Word.Read) d s g j r c w f h = rw (r.0 refl)
word_named a (Some Word.Check) d s g j r c w f h = rw (c.0 refl)
word_named a (Some Word.Why) d s g j r c w f h = rw (w.0 refl)
word_named a (Some Word.Fits) d s g j r c w f h = rw (f.0 refl)
word_named a (Some Word.Help) d s g j r c w f h = rw (h.0 refl)
word_named a None d s g j r c w f h =
    rw (
      other a (bytes "draw") (λ e. none-some _ (d.1 e)),
      other a (bytes "sheets") (λ e. none-some _ (s.1 e)),
      other a (bytes "graph") (λ e. none-some _ (g.1 e)),
      other a (bytes "json") (λ e. none-some _ (j.1 e)),
      other a (bytes "read") (λ e. none-some _ (r.1 e)),
      other a (bytes "check") (λ e. none-some _ (c.1 e)),
      other a (bytes "why") (λ e. none-some _ (w.1 e)),
      other a (bytes "fits") (λ e. none-some _ (f.1 e)),
      other a (bytes "help") (λ e. none-some _ (h.1 e)),
    )

pub option_named : (a : List ℕ) (r : Option Opt) → (r ≡ Some Opt.Fitted) ↔ (a ≡ bytes "--fitted") → (r ≡ Some Opt.Plain) ↔ (a ≡ bytes "--plain")
    → (r ≡ Some Opt.StandIn) ↔ (a ≡ bytes "--stand-in") → (r ≡ Some Opt.Rows) ↔ (a ≡ bytes "--rows") → (r ≡ Some Opt.Crate) ↔ (a ≡ bytes "--crate")
    → r ≡ option_in a
unfolding option_in same pick bytes concat letters utf8
option_named a (Some Opt.Fitted) f p s r o = rw (f.0 refl)
option_named a (Some Opt.Plain) f p s r o = rw (p.0 refl)
option_named a (Some Opt.StandIn) f p s r o = rw (s.0 refl)
option_named a (Some Opt.Rows) f p s r o = rw (r.0 refl)
option_named a (Some Opt.Crate) f p s r o = rw (o.0 refl)
option_named a None f p s r o =
    rw (
      other a (bytes "--fitted") (λ e. none-some _ (f.1 e)),
      other a (bytes "--plain") (λ e. none-some _ (p.1 e)),
      other a (bytes "--stand-in") (λ e. none-some _ (s.1 e)),
      other a (bytes "--rows") (λ e. none-some _ (r.1 e)),
      other a (bytes "--crate") (λ e. none-some _ (o.1 e)),
    )
