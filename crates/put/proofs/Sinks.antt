-- Putting into a sink piece by piece. Where W is to be put into s, and so far t is reached with `rest` still to put, one more piece leaves less
-- to put, and with nothing left W is put. From the laws of sinks alone.
use Rattle.std.proofs.Common.{◌≡◌, refl, ap, sym, ◌∙◌, List, [], ◌++◌, ℕ, ◌+◌, ◌≤◌, length, arith, append_assoc, append-nil, length-append}
use Rattle.put.specs.Sinks.{SinkLaws}

pub record Left {S : Type 0} (fits : ℕ → S → Type 0) (puts : List ℕ → S → S → Type 0) (W rest : List ℕ) (s t : S) : Type 0 where
  pub so_far : List ℕ
  pub whole : W ≡ so_far ++ rest
  pub put : puts so_far s t
  pub room : fits (length rest) t

module _ {S : Type 0} {fits : ℕ → S → Type 0} {puts : List ℕ → S → S → Type 0} (laws : SinkLaws fits puts) where
  -- a piece and the next
  pub then : {a b : List ℕ} {s t u : S} → puts a s t → puts b t u → puts (a ++ b) s u
  then {a} {b} {s} {t} {u} x y = laws.more a b s t u x y

  -- room for a part
  pub part : (m n : ℕ) {s : S} → m ≤ n → fits n s → fits m s
  part m n {s} h f = laws.fewer m n s h f

  -- and for what follows a piece
  pub after : {a : List ℕ} (n m : ℕ) {s t : S} → puts a s t → length a + n ≤ m → fits m s → fits n t
  after {a} n m {s} {t} x h f = laws.rest a n s t x (laws.fewer (length a + n) m s h f)

  -- nothing is put yet
  pub all : (W : List ℕ) {s : S} → fits (length W) s → Left fits puts W W s s
  all W {s} f = record { so_far = []; whole = refl; put = laws.none s; room = f }

  -- a piece is put
  pub step : {W rest : List ℕ} {s t u : S} (x more : List ℕ) → Left fits puts W rest s t → rest ≡ x ++ more → puts x t u → Left fits puts W more s u
  step {W} {rest} {s} {t} {u} x more h e p =
      record {
        so_far = h.so_far ++ x;
        whole = h.whole ∙ ap (λ l. h.so_far ++ l) e ∙ sym (append_assoc h.so_far x more);
        put = laws.more h.so_far x s t u h.put p;
        room = laws.rest x (length more) t u p (rw (← length-append x more, ← e) h.room);
      }

  -- it fits, as what is left does
  pub next_fits : {W rest : List ℕ} {s t : S} (x more : List ℕ) → Left fits puts W rest s t → rest ≡ x ++ more → fits (length x) t
  next_fits {W} {rest} {s} {t} x more h e = laws.fewer (length x) (length rest) t (omega (arith, ap length e, length-append x more)) h.room

  -- nothing is left
  pub end : {W rest : List ℕ} {s t : S} → Left fits puts W rest s t → rest ≡ [] → puts W s t
  end {W} {rest} {s} {t} h e = rw (h.whole ∙ ap (λ l. h.so_far ++ l) e ∙ append-nil h.so_far) h.put

  -- the same bytes said otherwise
  pub room_of : {w x : List ℕ} {s : S} → w ≡ x → fits (length w) s → fits (length x) s
  room_of e f = rw (← e) f

  pub put_as : {w x : List ℕ} {s t : S} → w ≡ x → puts w s t → puts x s t
  put_as e p = rw (← e) p

  -- room for two texts is room for the first, and for the second once that is put
  pub front : (a b : List ℕ) {s : S} → fits (length (a ++ b)) s → fits (length a) s
  front a b {s} f = laws.fewer (length a) (length (a ++ b)) s (omega (arith, length-append a b)) f

  pub back : (a b : List ℕ) {s t : S} → fits (length (a ++ b)) s → puts a s t → fits (length b) t
  back a b {s} {t} f p = laws.rest a (length b) s t p (rw (← length-append a b) f)
