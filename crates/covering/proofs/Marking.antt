-- Images as they are marked, one after the other.
use mathlib.Core.Bool.{Bool, true, false}
use mathlib.Core.List.{List, [], ◌∷◌, ◌++◌}
use mathlib.Core.Logic.{◌≢◌}
use mathlib.Core.Path.{◌≡◌, refl, sym, ap, subst, ◌∙◌}
use Prim.Native.Nat.{ℕ, ◌+◌, ◌≤◌, ◌<◌}
use native.Mathlib.Decide.{ℕ_discrete, dec_lt}
use native.Mathlib.Numerals.{add-one}
use native.Mathlib.Omega.{arith}
use lib.Dec.{T}
use lib.ListN.{length, get_or, take, set, length-append, get_or-append}
use lib.Seq.{take-suc, take_all, get_or-append_seam, set-get_or}
use Rattle.lists.proofs.Reflect.{Reflect, is_true, is_false, passes, r_eq, r_or, r_not, r_all}
use Rattle.heap.specs.Place.{cell}
use Rattle.cover.specs.Test.{stops}
use Rattle.cover.proofs.Paths.{r_stops}
use Rattle.covering.specs.Images.{once}
use Rattle.covering.specs.Marks.{mark, Marks}
use Rattle.covering.proofs.Marks.{mark_free, marks_stop}

r_once : (images : List ℕ)
    → Reflect ((i : ℕ) → i < length images → (j : ℕ) → j < length images → i ≢ j → get_or images i 0 ≢ get_or images j 0) (once images)
r_once images =
    r_all _ (length images) (λ i. r_all _ (length images) (λ j. r_or (r_eq i j) (r_not (r_eq (get_or images i 0) (get_or images j 0)))))

-- a place that is not free is an image's
module _ (images marks : List ℕ) (m : Marks images [] marks) (x : ℕ) (room : cell x < 28) where
  marked_same : get_or marks (cell x) 0 ≢ 0 → (j : ℕ) × (j < length images) × (get_or images j 0 ≡ x)
  marked_same n =
      let (j, a, y) = (r_stops images (cell x)).holds (passes (stops images (cell x)) (stop (stops images (cell x)) refl)) (λ o. omega arith) in
      (j, a, omega arith)
    where
      stop : (b : Bool) → stops images (cell x) ≡ b → stops images (cell x) ≡ true
      stop true z = z
      stop false z = absurd (n (m.marked (cell x) room ∙ rw z refl))

-- an image marked again
pub marks_again : (images marks : List ℕ) (p : ℕ) → Marks images [] marks → p < 28 → get_or marks p 0 ≢ 0 → Marks images [] (set marks p 1)
marks_again images marks p m b n =
    let e : get_or marks p 0 ≡ 1 = go (stops images p) (m.marked p b) in
    rw (← e, set-get_or marks p 0) m
  where
    go : (s : Bool) → get_or marks p 0 ≡ mark s true → get_or marks p 0 ≡ 1
    go true z = z
    go false z = absurd (n z)

-- these images are marked, and no two of them are the same
pub record Marking (images marks : List ℕ) : Type 0 where
  pub marked : Marks images [] marks
  pub apart : (j k : ℕ) → j < k → k < length images → get_or images j 0 ≢ get_or images k 0

pub marking_none : (marks : List ℕ) → Marks [] [] marks → Marking [] marks
marking_none marks m = record { marked = m; apart = λ j k a b. absurd (omega arith) }

module _ (images marks : List ℕ) (m : Marking images marks) where
  pub marking_once : once images ≡ true
  marking_once = is_true (once images) ((r_once images).tests (λ j a k c n. by_order j k a c n (dec_lt j k)))
    where
      by_order : (j k : ℕ) → j < length images → k < length images → j ≢ k → Dec (j < k) → get_or images j 0 ≢ get_or images k 0
      by_order j k a c n (yes o) = m.apart j k o c
      by_order j k a c n (no o) = λ z. m.apart k j (omega arith) a (sym z)

  module _ (x : ℕ) (room : cell x < 28) where
    here_marked : get_or marks (cell x) 0 ≡ mark (stops images (cell x)) true
    here_marked = m.marked.marked (cell x) room

    -- one image more
    pub marking_more : get_or marks (cell x) 0 ≡ 0 → Marking (images ++ (x ∷ [])) (set marks (cell x) 1)
    marking_more z =
        record {
          marked = marks_stop images marks x m.marked room;
          apart = λ j k a c. last j k a (omega (arith, length-append images (x ∷ []))) (ℕ_discrete k (length images));
        }
      where
        new : (j : ℕ) → j < length images → get_or images j 0 ≢ x
        new j a y =
            let (u, _) = mark_free (stops images (cell x)) true (sym here_marked ∙ z) in
            let t : T (stops images (cell x)) = (r_stops images (cell x)).tests (λ _. (j, a, ap cell (sym y))) in
            subst T u t

        inside : (j : ℕ) → j < length images → get_or (images ++ (x ∷ [])) j 0 ≡ get_or images j 0
        inside j a = get_or-append images (x ∷ []) 0 j a

        last : (j k : ℕ) → j < k → k ≤ length images → Dec (k ≡ length images) → get_or (images ++ (x ∷ [])) j 0 ≢ get_or (images ++ (x ∷ [])) k 0
        last j k a c (yes y) = rw (y, inside j (omega arith), get_or-append_seam images x [] 0) (new j (omega arith))
        last j k a c (no y) = rw (inside j (omega arith), inside k (omega arith)) (m.apart j k a (omega arith))

-- ---- the images of a list in turn, of which the first i are marked, whether they differ or not

abbrev Apart : List ℕ → Type 0
Apart images = (j k : ℕ) → j < k → k < length images → get_or images j 0 ≢ get_or images k 0

pub record Marked (images marks : List ℕ) (apart : Bool) : Type 0 where
  pub marked : Marks images [] marks
  pub differ : apart ≡ true → Apart images
  pub twice : apart ≡ false → ¬ Apart images

pub marked_none : (marks : List ℕ) → Marks [] [] marks → Marked [] marks true
marked_none marks m = record { marked = m; differ = λ _ j k a b. absurd (omega arith); twice = λ z. let v : ◌≡◌ {A = ℕ} 0 1 = cc in absurd (omega arith) }

fewer : (images : List ℕ) (x : ℕ) → Apart (images ++ (x ∷ [])) → Apart images
fewer images x h j k a b =
    let c : j < length images = omega arith in
    rw (get_or-append images (x ∷ []) 0 j c, get_or-append images (x ∷ []) 0 k b) at (h j k a (omega (arith, length-append images (x ∷ []))))

module _ (images marks : List ℕ) (apart : Bool) (i : ℕ) (m : Marked (take i images) marks apart) where
  module _ (b : i < length images) (p : ℕ) (e : p ≡ cell (get_or images i 0)) (room : p < 28) where
    abbrev x : ℕ
    x = get_or images i 0

    coded : cell x < 28
    coded = omega arith

    marked_too : Marks (take i images ++ (x ∷ [])) [] (set marks p 1)
    marked_too = rw e (marks_stop (take i images) marks x m.marked coded)

    -- no image was there
    pub mark_new : get_or marks p 0 ≡ 0 → Marked (take (i + 1) images) (set marks p 1) apart
    mark_new z =
        rw (add-one i, take-suc images i 0 b)
        (record {
          marked = marked_too;
          differ = λ t. (marking_more (take i images) marks (record { marked = m.marked; apart = m.differ t }) x coded (rw e at z)).apart;
          twice = λ f h. m.twice f (fewer (take i images) x h);
        })

    -- one was there
    pub mark_again : get_or marks p 0 ≢ 0 → Marked (take (i + 1) images) (set marks p 1) false
    mark_again o =
        rw (add-one i, take-suc images i 0 b)
        (record {
          marked = marked_too;
          differ = λ z. let v : ◌≡◌ {A = ℕ} 0 1 = cc in absurd (omega arith);
          twice = λ _ h.
              let (j, a, y) = marked_same (take i images) marks m.marked x coded (rw e at o) in
              h j (length (take i images)) a (omega (arith, length-append (take i images) (x ∷ [])))
              (get_or-append (take i images) (x ∷ []) 0 j a ∙ y ∙ sym (get_or-append_seam (take i images) x [] 0));
        })

  pub mark_all : length images ≤ i → (apart ≡ once images) × Marks images [] marks
  mark_all b = let k = rw (take_all i images b) at m in (by_answer apart refl k, k.marked)
    where
      by_answer : (a : Bool) → apart ≡ a → Marked images marks apart → apart ≡ once images
      by_answer true z k = z ∙ sym (marking_once images marks (record { marked = k.marked; apart = k.differ z }))
      by_answer false z k = z ∙ sym (is_false (once images) (λ t. k.twice z (λ j l a c. (r_once images).holds t j (omega arith) l c (omega arith))))
