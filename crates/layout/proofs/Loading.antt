-- The moves that load the codes of an entry.
use mathlib.Core.Bool.{true, false}
use mathlib.Core.List.{List}
use mathlib.Core.Path.{◌≡◌, refl, sym, ap, ◌∙◌}
use Prim.Native.Nat.{ℕ, ◌+◌, ◌-◌, ◌≤◌}
use native.Mathlib.Omega.{arith}
use lib.Dec.{leb}
use lib.ListN.{length, drop, length-drop}
use lib.Seq.{drop-drop, length-paste, paste}
use Rattle.lists.proofs.Reflect.{Reflect, r_and, r_le, is_false, same_test, passes}
use Rattle.layout.specs.Loading.{most_inside, loaded_codes}
use Rattle.layout.proofs.Copies.{copy_joined}

module _ (bytes : List ℕ) (variables links : ℕ) where
  abbrev pub Most : Type 0
  Most = (variables ≤ 8) × ((8 ≤ links) × (links + 12 ≤ length bytes))

  pub r_most : Reflect Most (most_inside bytes variables links)
  unfolding most_inside
  r_most = r_and (r_le variables 8) (r_and (r_le 8 links) (r_le (links + 12) (length bytes)))

  pub most : most_inside bytes variables links ≡ true → Most
  most e = r_most.holds (passes (most_inside bytes variables links) e)

  pub not_most : (Most → ⊥) → false ≡ most_inside bytes variables links
  not_most n = sym (is_false (most_inside bytes variables links) (λ t. n (r_most.holds t)))

  -- what is left from the first link on decides
  pub most_left : variables ≤ 8 → 8 ≤ links → links ≤ length bytes → leb 12 (length bytes - links) ≡ most_inside bytes variables links
  most_left a b c =
      same_test (r_le 12 (length bytes - links)) r_most (λ h. (a, (b, omega arith))) (λ m. let h = m.1.1 in omega arith)

  module _ (n : ℕ) (s : List ℕ) where
    -- three moves of eight bytes
    pub moved : most_inside bytes variables links ≡ true → length s ≡ 28
        → paste (paste (paste s (10 + variables) (drop (links - 8) bytes) 8) 3 (drop links bytes) 8) 7 (drop (links + 4) bytes) 8
        ≡ loaded_codes bytes variables links n s
    unfolding loaded_codes
    moved e slots =
        let m = most e in
        let codes = drop (links - 8) bytes in
        let enough : 8 ≤ length codes = omega (arith, length-drop (links - 8) bytes, m.1.0, m.1.1) in
        let start : 18 + variables - 8 ≡ 10 + variables = omega arith in
        let d = paste s (10 + variables) codes 8 in
        let same : length d ≡ length s = length-paste s (10 + variables) codes 8 (omega (arith, m.0)) enough in
        rw (e, start)
        (ap (λ (l : List ℕ). paste (paste d 3 (drop links bytes) 8) 7 l 8) (sym (drop-drop 4 links bytes))
        ∙ copy_joined d 3 (drop links bytes) 8 4 8 (omega arith) (omega (arith, length-drop links bytes, m.1.1)) (omega arith) (omega arith))

    -- two copies
    pub copied_own : most_inside bytes variables links ≡ false → variables ≤ links
        → paste (paste s 18 (drop (links - variables) bytes) variables) 3 (drop links bytes) n ≡ loaded_codes bytes variables links n s
    unfolding loaded_codes
    copied_own e few = let start : 18 + variables - variables ≡ 18 = omega arith in rw (e, start) refl
