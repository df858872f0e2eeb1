-- A path as it is followed with marks.
use mathlib.Core.List.Memᴰ
use mathlib.Core.List.{List, [], ◌∷◌, ◌++◌}
use mathlib.Core.Bool.{true, false}
use mathlib.Core.Logic.{◌≢◌, ◌⊎◌, inl, ⊎_elim}
use mathlib.Core.Path.{◌≡◌, refl, sym, ap, ◌∙◌}
use Prim.Native.Nat.{ℕ, zero, suc, ◌≤◌, ◌<◌}
use native.Mathlib.Omega.{arith}
use native.Mathlib.Decide.{ℕ_discrete, dec_lt}
use lib.ListN.{length, get_or, set, length-append}
use Rattle.lists.specs.List.{◌∈◌, absent, disjoint}
use Rattle.lists.proofs.List.{mem?}
use Rattle.lists.proofs.Reflect.{is_true, passes, r_absent, r_disjoint}
use Rattle.heap.specs.Codes.{link_in}
use Rattle.heap.specs.Place.{nowhere, cell}
use Rattle.heap.proofs.Codes.{CellOf, by_number}
use Rattle.cover.specs.Test.{stops}
use Rattle.marks.specs.Marks.{Walk, mark_in, cells_in, walked_from, walked}
use Rattle.marks.proofs.Walks.{frees, frees_most, frees_less, mark_read, mark_past, mark_in_lem, walk_more, walk_met}
use Rattle.covering.specs.Marks.{mark, Marks, LinksIn, Walking, end_from, path_from, Followed}
use Rattle.covering.proofs.Marks.{mark_free, mark_stop, marks_like, marks_use}
use Rattle.covering.proofs.Trail.{free_low, Trail, trail_none, trail_more, trail_past, trail_found, trail_lost}

-- ---- links

module _ (links s : List ℕ) (l : LinksIn links s) where
  pub link_read : (p : ℕ) → CellOf (length links) p → get_or s p 0 ≡ link_in links p
  link_read p (a, b) = by_number (length links) (λ p. get_or s p 0 ≡ link_in links p) l.same p (a, b)

-- ---- the loop

-- the path from a cell has been followed to a place by so many links, and what was passed is marked
pub record Following (links images used : List ℕ) (from : ℕ) (marks : List ℕ) (p steps : ℕ) : Type 0 where
  pub path : List ℕ
  pub counted : steps ≡ suc (length path)
  pub trail : Trail links images used from path p
  pub marked : Marks images (path ++ used) marks

module _ (links images used s marks₀ : List ℕ) (from : ℕ) (w : Walking links images used s marks₀ from) where
  abbrev n : ℕ
  n = cells_in s

  -- exactly an end is marked as one
  module _ (passed marks : List ℕ) (k : Marks images passed marks) (p : ℕ) where
    here_is : p < cell n → get_or marks p 0 ≡ mark (stops images p) (absent p passed)
    here_is b = k.marked p (omega (arith, b, w.cells, w.linked.fit))

    stop_met : mark_in n marks p ≡ 1 → stops images p ≡ true
    stop_met e = go (dec_lt p (cell n))
      where
        go : Dec (p < cell n) → stops images p ≡ true
        go (yes b) = mark_stop (stops images p) (absent p passed) (sym (here_is b) ∙ sym (mark_read n marks p b) ∙ e)
        go (no b) = absurd (omega (arith, mark_past n marks p (omega arith)))

    met_stop : stops images p ≡ true → mark_in n marks p ≡ 1
    met_stop stop =
        let here : p < cell n = omega (arith, w.cells, w.ends_in p stop) in
        mark_read n marks p here ∙ here_is here ∙ rw stop refl

  pub marked_end : (p : ℕ) → mark_in n marks₀ p ≡ 1 → stops images p ≡ true
  marked_end p = stop_met used marks₀ w.marked p

  pub end_marked : (p : ℕ) → stops images p ≡ true → mark_in n marks₀ p ≡ 1
  end_marked p = met_stop used marks₀ w.marked p

  pub follow_none : Following links images used from marks₀ (get_or s from 0) 1
  follow_none =
      record {
        path = [];
        counted = refl;
        trail = rw (link_read links s w.linked from (w.low, w.high)) (trail_none links images used from);
        marked = w.marked;
      }

  module _ (marks : List ℕ) (p steps : ℕ) (f : Following links images used from marks p steps) where
    module _ (here : p < cell n) where
      pub here_in : p < 28
      here_in = omega (arith, here, w.cells, w.linked.fit)

      here_marked : get_or marks p 0 ≡ mark (stops images p) (absent p (f.path ++ used))
      here_marked = f.marked.marked p here_in

      pub here_cell : get_or marks p 0 ≡ 0 → CellOf (length links) p
      here_cell e = (free_low images p (mark_free (stops images p) (absent p (f.path ++ used)) (sym here_marked ∙ e)).0, omega (arith, here, w.cells))

      pub follow_more : get_or marks p 0 ≡ 0 → Following links images used from (set marks p 2) (get_or s p 0) (suc steps)
      follow_more e =
          let (free, new) = mark_free (stops images p) (absent p (f.path ++ used)) (sym here_marked ∙ e) in
          let out : ¬ (p ∈ (f.path ++ used)) = (r_absent p (f.path ++ used)).holds (passes (absent p (f.path ++ used)) new) in
          record {
            path = f.path ++ (p ∷ []);
            counted = omega (arith, f.counted, length-append f.path (p ∷ []));
            trail =
                rw (link_read links s w.linked p (here_cell e))
                (trail_more links images used from f.path p f.trail (w.low, w.high) w.image (omega (arith, here, w.cells)) free
                (λ m. out (Memᴰ.append_left used m)) (λ m. out (Memᴰ.append_right f.path m)));
            marked =
                marks_like images (p ∷ (f.path ++ used)) (set marks p 2) (marks_use images (f.path ++ used) marks f.marked p here_in free)
                ((f.path ++ (p ∷ [])) ++ used) inward outward;
          }
        where
          inward : (x : ℕ) → x ∈ (p ∷ (f.path ++ used)) → x ∈ ((f.path ++ (p ∷ [])) ++ used)
          inward x (Memᴰ.head z) = Memᴰ.append_left used (Memᴰ.append_right f.path (Memᴰ.head z))
          inward x (Memᴰ.tail m) =
              ⊎_elim (λ i. Memᴰ.append_left used (Memᴰ.append_left (p ∷ []) i)) (λ i. Memᴰ.append_right (f.path ++ (p ∷ [])) i)
              (Memᴰ.append_cases f.path m)

          outward : (x : ℕ) → x ∈ ((f.path ++ (p ∷ [])) ++ used) → x ∈ (p ∷ (f.path ++ used))
          outward x m =
              ⊎_elim (λ i. ⊎_elim (λ j. Memᴰ.tail (Memᴰ.append_left used j)) (λ j. Memᴰ.head (Memᴰ.eq_of_singleton j)) (Memᴰ.append_cases f.path i))
              (λ i. Memᴰ.tail (Memᴰ.append_right f.path i)) (Memᴰ.append_cases (f.path ++ (p ∷ [])) m)

    -- an end is met
    met_end : stops images p ≡ true → (end_from links images from ≡ p) × (path_from links images from ≡ f.path)
    met_end stop = trail_found links images used from f.path p f.trail (w.low, w.high) w.image stop

    -- a place past the cells is met, or a used cell
    met_none : mark_in n marks p ≢ 0 → stops images p ≡ false
        → (end_from links images from ≡ nowhere) ⊎ (disjoint (path_from links images from) used ≡ false)
    met_none o free = go (dec_lt p (cell n))
      where
        used_cell : Dec (p ∈ (f.path ++ used)) → get_or marks p 0 ≡ mark false (absent p (f.path ++ used)) → get_or marks p 0 ≢ 0
            → (p ∈ f.path) ⊎ (p ∈ used)
        used_cell (yes m) e k = Memᴰ.append_cases f.path m
        used_cell (no m) e k = absurd (k (e ∙ rw (is_true (absent p (f.path ++ used)) ((r_absent p (f.path ++ used)).tests m)) refl))

        go : Dec (p < cell n) → (end_from links images from ≡ nowhere) ⊎ (disjoint (path_from links images from) used ≡ false)
        go (yes b) =
            trail_lost links images used from f.path p f.trail (w.low, w.high) w.image free
            (used_cell (mem? p (f.path ++ used)) (rw free at (here_marked b)) (λ z. o (mark_read n marks p b ∙ z)))
        go (no b) = inl (trail_past links images used from f.path p f.trail (omega (arith, w.cells)) free)

    pub follow_met : mark_in n marks p ≢ 0 → Followed links images used from p steps marks
    follow_met o =
        record {
          ends = λ stop. (met_end stop).0;
          counted = λ stop. f.counted ∙ ap (λ (l : List ℕ). suc (length l)) (sym (met_end stop).1);
          unshared = λ stop. rw (met_end stop).1 (is_true (disjoint f.path used) ((r_disjoint f.path used).tests f.trail.unused));
          marked = λ stop. rw (met_end stop).1 f.marked;
          lost = met_none o;
          marked_stop = rw w.cells (stop_met (f.path ++ used) marks f.marked p);
          stop_marked = rw w.cells (met_stop (f.path ++ used) marks f.marked p);
        }

  -- a path of one step, to an end
  pub follow_direct : (r : ℕ) → get_or s from 0 ≡ r → stops images r ≡ true → Followed links images used from r 1 marks₀
  follow_direct r e stop =
      let f = rw e at follow_none in
      follow_met marks₀ r 1 f (λ z. let one : 1 ≡ 0 = sym (end_marked r stop) ∙ z in omega arith)

  -- ---- the walk by marks ends where the path by images ends

  module _ (marks : List ℕ) (p steps : ℕ) (f : Following links images used from marks p steps) (e : mark_in n marks p ≡ 0) where
    less : frees (set marks p 2) < frees marks
    less =
        let (b, z) = mark_in_lem n marks p e in
        frees_less marks p 2 (omega (arith, here_in marks p steps f b, f.marked.room)) z (omega arith)

    more : Following links images used from (set marks p 2) (get_or s p 0) (suc steps)
    more = let (b, z) = mark_in_lem n marks p e in follow_more marks p steps f b z

  -- a walk followed the path from the cell
  abbrev Follows : Walk → Type 0
  Follows w = Followed links images used from w.end w.links w.marks

  follows : (k : ℕ) (marks : List ℕ) (p steps : ℕ) → frees marks ≤ k → Following links images used from marks p steps → Follows (walked_from k steps s marks p)
  follows zero marks p steps h f =
      let o : mark_in n marks p ≢ 0 = λ e. omega (arith, less marks p steps f e) in
      rw (walk_met s 0 steps marks p o) (follow_met marks p steps f o)
  follows (suc k) marks p steps h f =
      by_mark (ℕ_discrete (mark_in n marks p) 0)
      (λ e. follows k (set marks p 2) (get_or s p 0) (suc steps) (omega (arith, less marks p steps f e)) (more marks p steps f e))
    where
      by_mark : Dec (mark_in n marks p ≡ 0) → (mark_in n marks p ≡ 0 → Follows (walked_from k (suc steps) s (set marks p 2) (get_or s p 0)))
          → Follows (walked_from (suc k) steps s marks p)
      by_mark (yes e) rest = rw (walk_more s k steps marks p e) (rest e)
      by_mark (no o) rest = rw (walk_met s (suc k) steps marks p o) (follow_met marks p steps f o)

  pub walk_follows : Follows (walked s marks₀ (get_or s from 0))
  walk_follows = follows (length marks₀) marks₀ (get_or s from 0) 1 (frees_most marks₀) follow_none
