-- The test whether an entry stands whole.
use mathlib.Core.Bool.{Bool, true, false, cond}
use mathlib.Core.List.{List}
use mathlib.Core.Path.{◌≡◌, refl, sym, ◌∙◌}
use Prim.Native.Nat.{ℕ, ◌+◌, ◌*◌, ◌≤◌}
use native.Mathlib.Omega.{arith}
use lib.Dec.{leb}
use lib.ListN.{length, get_or}
use Rattle.std.specs.Prelude.{Option, None, Some, IsSome, is_some}
use Rattle.std.proofs.lemmas.Option.{none-some, cond_some}
use Rattle.lists.proofs.Reflect.{Reflect, r_and, r_iff, r_eq, r_le, r_lt, cond_cases, is_true, is_false, same_test, passes, fails}
use Rattle.layout.specs.Entries.{version_of, fact_count, facts_first, facts_end, links_end, links_inside, entry_end, is_whole, EntryInRange, Whole}

-- facts come after the links
pub facts_after : (bytes : List ℕ) (at : ℕ) → at ≤ facts_end bytes at
unfolding facts_end facts_first
facts_after bytes at =
    cond_cases (λ n. at ≤ n) (r_eq (version_of bytes) 2)
    (λ _. cond_cases (λ n. at ≤ n + 3 * fact_count bytes at) (r_lt (get_or bytes at 0) 128) (λ _. omega arith) (λ _. omega arith)) (λ _. omega arith)

module _ (bytes : List ℕ) (variables at : ℕ) where
  -- what the test of the links says
  pub record Inside : Type 0 where
    pub variables_most : variables ≤ 9
    pub cells : get_or bytes (at + 1) 0 ≤ 12
    pub inside : links_end bytes variables at ≤ length bytes

  r_inside : Reflect Inside (links_inside bytes variables at)
  unfolding links_inside
  r_inside =
      r_iff (λ (a, (b, e)). record { variables_most = a; cells = b; inside = e }) (λ w. (w.variables_most, (w.cells, w.inside)))
      (r_and (r_le variables 9) (r_and (r_le (get_or bytes (at + 1) 0) 12) (r_le (links_end bytes variables at) (length bytes))))

  pub inside : links_inside bytes variables at ≡ true → Inside
  inside e = r_inside.holds (passes (links_inside bytes variables at) e)

  pub is_inside_lem : Inside → links_inside bytes variables at ≡ true
  is_inside_lem w = is_true (links_inside bytes variables at) (r_inside.tests w)

  pub not_inside : (Inside → ⊥) → false ≡ links_inside bytes variables at
  not_inside n = sym (is_false (links_inside bytes variables at) (λ t. n (r_inside.holds t)))

  -- where the place and the numbers are small enough, the rest decides
  pub inside_left : (left : ℕ) → variables ≤ 9 → get_or bytes (at + 1) 0 ≤ 12 → at + 2 + variables + left ≡ length bytes
      → leb (get_or bytes (at + 1) 0) left ≡ links_inside bytes variables at
  inside_left left a b e =
      same_test (r_le (get_or bytes (at + 1) 0) left) r_inside (λ h. record { variables_most = a; cells = b; inside = omega arith })
      (λ w. omega (arith, w.inside))

  r_whole : Reflect (Whole bytes variables at) (is_whole bytes variables at)
  unfolding is_whole
  r_whole =
      r_iff (λ (i, e). record { variables_most = i.variables_most; cells = i.cells; inside = i.inside; facts_inside = e })
      (λ w. (record { variables_most = w.variables_most; cells = w.cells; inside = w.inside }, w.facts_inside))
      (r_and r_inside (r_le (entry_end bytes variables at) (length bytes)))

  pub whole : is_whole bytes variables at ≡ true → Whole bytes variables at
  whole e = r_whole.holds (passes (is_whole bytes variables at) e)

  pub is_whole_lem : Whole bytes variables at → is_whole bytes variables at ≡ true
  is_whole_lem w = is_true (is_whole bytes variables at) (r_whole.tests w)

  pub not_whole : (Whole bytes variables at → ⊥) → false ≡ is_whole bytes variables at
  not_whole n = sym (is_false (is_whole bytes variables at) (λ t. n (r_whole.holds t)))

  -- an entry in range is whole
  pub entry_whole : EntryInRange bytes variables at → variables ≤ 8 → Whole bytes variables at
  entry_whole e few = record { variables_most = omega arith; cells = e.cells; inside = e.inside; facts_inside = e.facts_inside }

  -- an entry whose links are not inside is not whole
  pub lost_inside : links_inside bytes variables at ≡ false → Whole bytes variables at → ⊥
  lost_inside e w = fails (links_inside bytes variables at) e (r_inside.tests (record { variables_most = w.variables_most; cells = w.cells; inside = w.inside }))

  -- what is told of the entry's end
  abbrev end_told : Option ℕ
  end_told = cond (is_whole bytes variables at) (Some (entry_end bytes variables at)) None

  pub no_end : (Whole bytes variables at → ⊥) → None ≡ end_told
  no_end n = rw (sym (not_whole n)) refl

  pub end_told_lem : Whole bytes variables at → Some (entry_end bytes variables at) ≡ end_told
  end_told_lem w = rw (is_whole_lem w) refl

  -- where none is told, the entry is not whole
  pub end_lost : None ≡ end_told → Whole bytes variables at → ⊥
  end_lost e w = none-some (entry_end bytes variables at) (e ∙ sym (end_told_lem w))

  -- one that is told is a whole entry's
  pub end_whole : (end : ℕ) → Some end ≡ end_told → Whole bytes variables at × (end ≡ entry_end bytes variables at)
  end_whole end e = let p = cond_some (is_whole bytes variables at) (entry_end bytes variables at) end (sym e) in (whole p.0, sym p.1)

  -- one is told exactly if the entry is whole
  pub end_tells : (r : Option ℕ) → r ≡ end_told → is_some r ≡ is_whole bytes variables at
  end_tells r e = rw e (go (is_whole bytes variables at))
    where
      go : (b : Bool) → is_some (cond b (Some (entry_end bytes variables at)) None) ≡ b
      go true = refl
      go false = refl

  pub end_stands : (r : Option ℕ) → r ≡ end_told → Whole bytes variables at → IsSome r
  end_stands r e w = end_tells r e ∙ is_whole_lem w
