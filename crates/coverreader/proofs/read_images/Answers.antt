-- The loop reads the images in turn: those before i are in the array (`Reading`).
use Rattle.std.proofs.Common.{◌≡◌, ℕ, sym, arith}
use Rattle.coverreader.proofs.ReadImages.{reading_all, reading_unreadable, reading_outside, reading_more}
use Rattle.coverreader.proofs.read_images.Goals as goal

pub returns-in_default : goal.returns-in_default
returns-in_default c =
    record {
      reads = reading_unreadable _ _ _ _ _ _ _ c.loop-i.invariant (omega arith) _ (sym c.in_default.ensures);
      images = λ _ e. let z : ◌≡◌ {A = ℕ} 0 1 = cc in absurd (omega arith);
    }

pub returns-then-n-c : goal.returns-then-n-c
returns-then-n-c c =
    record {
      reads = reading_outside _ _ _ _ _ _ _ c.loop-i.invariant (omega arith) _ _ (sym c.in-Ok.ensures) c.if-n-c.true;
      images = λ _ e. let z : ◌≡◌ {A = ℕ} 0 1 = cc in absurd (omega arith);
    }

pub loop-i-preserved : goal.loop-i-preserved
loop-i-preserved c = reading_more _ _ _ _ _ _ _ c.loop-i.invariant (omega arith) _ _ c.requires.1 (sym c.in-Ok.ensures) (omega arith)

pub returns : goal.returns
returns c = let (a, b) = reading_all _ _ _ _ _ _ _ c.loop-i.invariant (omega arith) in record { reads = a; images = λ _ _. b }
