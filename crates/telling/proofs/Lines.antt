-- The parts of a verdict's line, put one after the other.
use mathlib.Core.List.{List, ◌++◌}
use mathlib.Core.Path.{◌≡◌}
use Prim.Native.Nat.{ℕ, ◌<◌}
use borrow.Author.Tests.{eq-eqb, ne_eqb}
use native.Mathlib.Nat.{ne_of_gt}
use Rattle.format.specs.Parser.{Reason, reason_number}
use Rattle.format.specs.Verdict.{Counts, accepted, refused}
use Rattle.putting.specs.Digits.{digits}
use Rattle.putting.specs.Put.{Put}
use Rattle.putting.proofs.Putting.{put_more, put_end}
use Rattle.verdict.specs.Verdict.{rule_told, name_told}
use Rattle.telling.specs.Line.{accepted_words, members_words, covers_words, links_words, refused_words, at_words, rule_words, of_words, verdict_line}

pub put_accepted : (c : Counts) {i j k n : ℕ} {out o₁ o₂ o₃ after : List ℕ} → Put 0 out (accepted_words ++ digits c.bads) i o₁
    → Put i o₁ (members_words ++ digits c.members) j o₂ → Put j o₂ (covers_words ++ digits c.covers) k o₃
    → Put k o₃ (links_words ++ digits c.links) n after → Put 0 out (verdict_line (accepted c)) n after
unfolding verdict_line
put_accepted c p q r s = put_more (put_more (put_more p q) r) s

module _ (why : Reason) (place : ℕ) {i j : ℕ} {out o₁ o₂ : List ℕ} (p : Put 0 out (refused_words ++ digits (reason_number why)) i o₁) (q : Put i o₁ (at_words ++ digits place) j o₂) where
  -- no rule broke
  pub put_refused : rule_told why ≡ 0 → Put 0 out (verdict_line (refused why place)) j o₂
  unfolding verdict_line
  put_refused e = rw (eq-eqb (rule_told why) 0 e) (put_end (put_more p q))

  -- one did
  pub put_ruled : {k n : ℕ} {o₃ after : List ℕ} → 0 < rule_told why → Put j o₂ (rule_words ++ digits (rule_told why)) k o₃ → Put k o₃ (of_words ++ digits (name_told why)) n after
      → Put 0 out (verdict_line (refused why place)) n after
  unfolding verdict_line
  put_ruled some r s = rw (ne_eqb (rule_told why) 0 (ne_of_gt some)) (put_more (put_more p q) (put_more r s))
