-- What is printed for a command line is by what is said of its trouble.
use Rattle.std.proofs.Common.{◌≡◌, refl, subst, List, ℕ, Option, Some, None}
use Rattle.desk_line.specs.Line.{Line, Fault}
use Rattle.desk_trouble.specs.Troubles.{trouble_words}
use Rattle.desk_options.specs.Options.{source_of}
use Rattle.desk_page.specs.Pages.{Page, on_err}
use Rattle.desk_page.specs.Lays.{Lays}
use Rattle.desk_page.specs.declared.Shown.{Shown}
use Rattle.desk_answer.specs.Printed.{OfSource, Told, Prints}

module _ {t : Option Fault} (l : Line) (cells room entries bytes : ℕ) (F : List ℕ) (g : Page) where
  wrong : {f : Fault} → t ≡ Some f → g ≡ on_err (trouble_words f) → Told t l cells room entries bytes F g
  wrong e h = rw e h

  right : t ≡ None → OfSource l cells room entries bytes (source_of l.word) F g → Told t l cells room entries bytes F g
  right e h = rw e h

module _ {l m : Line} (same : l ≡ m) (cells room entries bytes : ℕ) (F : List ℕ) {O : List ℕ} {r : Shown} where
  pub complained : {f : Fault} → l.trouble ≡ Some f → Lays O r (on_err (trouble_words f)) → (g : Page) × Prints m cells room entries bytes F g × Lays O r g
  complained {f} e h = (on_err (trouble_words f), subst (λ n. Prints n cells room entries bytes F (on_err (trouble_words f))) same (wrong l cells room entries bytes F _ e refl), h)

  pub answered : l.trouble ≡ None → (g : Page) × OfSource l cells room entries bytes (source_of l.word) F g × Lays O r g
      → (g : Page) × Prints m cells room entries bytes F g × Lays O r g
  answered e h = (h.0, subst (λ n. Prints n cells room entries bytes F h.0) same (right l cells room entries bytes F h.0 e h.1), h.2)
