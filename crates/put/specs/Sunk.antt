-- What becomes of a text that is put: one sink stores it, and one counts it. Words for contracts, and the laws of sinks for both.
use Rattle.std.specs.Prelude.{◌≡◌, List, ℕ, ◌+◌, ◌<◌, ◌^◌, length, refl}
use Rattle.std.proofs.Common.{arith, sym, ◌∙◌, add-zero, length-append}
use Rattle.put.specs.Put.{Put}
use Rattle.put.specs.Sinks.{SinkLaws}
use Rattle.put.specs.declared.out.Out.{Out}
use Rattle.put.specs.declared.count.Count.{Count}
use Rattle.rules.proofs.Lists.{sets_append}

abbrev pub out_fits : ℕ → Out → Type 0
out_fits n o = o.at + n < 2 ^ 64

-- stored in the caller's own memory, which is still the one that is lent
pub record Stores (w : List ℕ) (old new : Out) : Type 0 where
  pub same_memory : new.bytes.ghost_name ≡ old.bytes.ghost_name
  pub stored : Put w old.at old.bytes.now new.bytes.now new.at

pub out_laws : SinkLaws out_fits Stores
out_laws = record {
  none = λ s. record { same_memory = refl; stored = record { place = sym (add-zero s.at); holds = refl } };
  more = λ a b s t u x y. record {
    same_memory = y.same_memory ∙ x.same_memory;
    stored = record {
      place = omega (arith, x.stored.place, y.stored.place, length-append a b);
      holds = rw (y.stored.holds, x.stored.holds, x.stored.place, ← sets_append s.bytes.now s.at a b);
    };
  };
  fewer = λ m n s l f. omega (arith, l, f);
  rest = λ a n s t x f. omega (arith, x.stored.place, f);
}

abbrev pub count_fits : ℕ → Count → Type 0
count_fits n c = c.at + n < 2 ^ 64

pub record Counts (w : List ℕ) (old new : Count) : Type 0 where
  pub place : new.at ≡ old.at + length w

pub count_laws : SinkLaws count_fits Counts
count_laws = record {
  none = λ s. record { place = omega arith };
  more = λ a b s t u x y. record { place = omega (arith, x.place, y.place, length-append a b) };
  fewer = λ m n s l f. omega (arith, l, f);
  rest = λ a n s t x f. omega (arith, x.place, f);
}
