-- How many cells are met: links followed one by one, against the list of cells.
use mathlib.Core.List.{List}
use mathlib.Core.Logic.{◌≢◌}
use mathlib.Core.Option.{Option, none, some}
use mathlib.Core.Path.{◌≡◌, refl, sym, ap, ◌∙◌}
use Prim.Native.Nat.{ℕ, zero, suc, ◌+◌, ◌-◌, ◌≤◌, ◌<◌}
use native.Mathlib.Omega.{arith}
use borrow.Author.Tests.{eq-eqb, ne_eqb}
use lib.ListN.{length}
use Rattle.heap.specs.Place.{nowhere, null}
use Rattle.blocklist.specs.BlockList.{cells_from, prepend}
use Rattle.blocklist.specs.Answers.{length_told}
use Rattle.std.specs.Prelude.{Result, Ok, Err}
use Rattle.blocklist.specs.declared.ListRefusal.{ListRefusal}
use Rattle.blocklist.specs.declared.ListRefusal.TheVariants.{NoList}

-- what is told of the cells met from p within k links
abbrev pub told : (ℕ → ℕ) → ℕ → ℕ → Result ℕ ListRefusal
told link k p = length_told (cells_from link k p)

-- n cells more
abbrev pub plus : ℕ → Result ℕ ListRefusal → Result ℕ ListRefusal
plus n (Ok m) = Ok (n + m)
plus n (Err r) = Err r

plus_none : (l : Result ℕ ListRefusal) → plus 0 l ≡ l
plus_none (Ok m) = let e : 0 + m ≡ m = omega arith in rw e refl
plus_none (Err r) = refl

plus_more : (n : ℕ) (l : Result ℕ ListRefusal) → plus n (plus 1 l) ≡ plus (n + 1) l
plus_more n (Ok m) = let e : n + (1 + m) ≡ (n + 1) + m = omega arith in rw e refl
plus_more n (Err r) = refl

prepend_told : (p : ℕ) (r : Option (List ℕ)) → length_told (prepend p r) ≡ plus 1 (length_told r)
prepend_told p none = refl
prepend_told p (some xs) = let e : suc (length xs) ≡ 1 + length xs = omega arith in ap Ok e

module _ (link : ℕ → ℕ) where
  told_null : (k p : ℕ) → p ≡ null → told link k p ≡ Ok 0
  unfolding cells_from
  told_null zero p e = rw (eq-eqb p null e) refl
  told_null (suc k) p e = rw (eq-eqb p null e) refl

  told_none : (p : ℕ) → p ≢ null → told link 0 p ≡ Err NoList
  unfolding cells_from
  told_none p n = rw (ne_eqb p null n) refl

  told_next : (k p : ℕ) → p ≢ null → told link (suc k) p ≡ plus 1 (told link k (link p))
  unfolding cells_from
  told_next k p n = rw (ne_eqb p null n) (prepend_told p (cells_from link k (link p)))

  module _ (low : link nowhere ≡ nowhere) where
    told_nowhere : (k : ℕ) → told link k nowhere ≡ Err NoList
    told_nowhere zero = told_none nowhere (omega arith)
    told_nowhere (suc k) = told_next k nowhere (omega arith) ∙ ap (λ (q : ℕ). plus 1 (told link k q)) low ∙ ap (plus 1) (told_nowhere k)

    -- past a place without a link
    told_past : (k p : ℕ) → p ≢ null → link p ≡ nowhere → told link k p ≡ Err NoList
    told_past zero p n e = told_none p n
    told_past (suc k) p n e = told_next k p n ∙ ap (λ (q : ℕ). plus 1 (told link k q)) e ∙ ap (plus 1) (told_nowhere k)

-- ---- the loop: n links from the head stands p; what is told from p with the links that are left is what is told from the head

pub record Followed (link : ℕ → ℕ) (head n p : ℕ) : Type 0 where
  pub within : n ≤ 64
  pub left : plus n (told link (64 - n) p) ≡ told link 64 head

module _ (link : ℕ → ℕ) (head : ℕ) where
  pub none_followed : Followed link head 0 head
  none_followed = record { within = omega arith; left = plus_none (told link 64 head) }

  module _ (n p : ℕ) (f : Followed link head n p) where
    pub at_null : p ≡ null → Ok n ≡ told link 64 head
    at_null e =
        let k : n ≡ n + 0 = omega arith in
        ap Ok k ∙ ap (plus n) (sym (told_null link (64 - n) p e)) ∙ f.left

    pub at_end : link nowhere ≡ nowhere → p ≢ null → link p ≡ nowhere → Err NoList ≡ told link 64 head
    at_end low o e = ap (plus n) (sym (told_past link low (64 - n) p o e)) ∙ f.left

    pub too_far : 64 ≤ n → p ≢ null → Err NoList ≡ told link 64 head
    too_far h o =
        let k : 0 ≡ 64 - n = omega arith in
        ap (plus n) (sym (told_none link p o) ∙ ap (λ (j : ℕ). told link j p) k) ∙ f.left

    pub one_more_lem : n < 64 → p ≢ null → Followed link head (n + 1) (link p)
    one_more_lem h o =
        let one : suc (64 - (n + 1)) ≡ 64 - n = omega arith in
        record {
          within = omega arith;
          left = sym (plus_more n (told link (64 - (n + 1)) (link p))) ∙ ap (plus n) (sym (told_next link (64 - (n + 1)) p o))
              ∙ ap (λ (j : ℕ). plus n (told link j p)) one ∙ f.left;
        }
