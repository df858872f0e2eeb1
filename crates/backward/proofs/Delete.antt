-- Kind 7: delete(a).
use mathlib.Core.Bool.{◌||◌}
use mathlib.Core.List.Memᴰ
use mathlib.Core.List.{List, [], ◌∷◌, ◌++◌, map, append-nil}
use mathlib.Core.Logic.{◌≢◌, ◌⊎◌, inl, inr, ite, if_pos, if_neg}
use mathlib.Core.Path.{◌≡◌, refl, sym, ap, ◌∙◌, subst}
use Prim.Native.Nat.{ℕ, zero, suc, ◌≤◌, ◌<◌}
use native.Mathlib.Decide.{ℕ_discrete}
use native.Mathlib.Omega.{arith}
use lib.Dec.{eqb}
use lib.ListN.{length, length-map, get_or}
use Rattle.lists.specs.List.{◌∈◌, concat_map}
use Rattle.lists.proofs.List.{mem_concat_map}
use Rattle.lists.proofs.Reflect.{r_eq, r_or, cond_cases, cond_true, cond_false}
use Rattle.heap.specs.Codes.{var_in}
use Rattle.heap.specs.Heap.{Heap, IsCell, update}
use Rattle.heap.specs.Operation.{delete, dangled, after}
use Rattle.heap.specs.Place.{nowhere, dangling}
use Rattle.graph.specs.Graph.{Chain, Graph, Embeds}
use Rattle.graph.proofs.Chain.{chain_step, chain_agree}
use Rattle.graph.proofs.Extend.{extend_unlinked}
use Rattle.graph.proofs.Paths.{path_linked, place_off_path}
use Rattle.graph.proofs.Proper.{Proper, IsPlace, Closed, dangling_place, distinct_places}
use Rattle.heap.proofs.Update.{update_same, update_other, update_cases}
use Rattle.facts.specs.Facts.{Follows}
use Rattle.shape.specs.Placing.{set_var_in, fresh, grow}
use Rattle.shape.specs.Shape.{Shape, var_at, link_at, size, shape_graph, heap_graph, SatisfiesOne}
use Rattle.facts.proofs.Meets.{meets_kept}
use Rattle.shape.proofs.Laws.{shape_proper, link_map, link_unlinked, length_snoc, var_set_same, var_set_other}
use Rattle.run.specs.WellFormed.{WellFormed}
use Rattle.run.proofs.WellFormed.{heap_proper, after_formed}
use Rattle.backward.specs.Predecessors.{forget, forget_links, stood, vars_before, with_vars, before}
use Rattle.backward.proofs.Both.{value_kept}

pub forget_below : (k p : ℕ) → p < k → forget p < k
forget_below k p b = cond_cases (λ q. q < k) (r_eq p dangling) (λ _. omega arith) (λ _. b)

forget_other : (p : ℕ) → p ≢ dangling → forget p ≡ p
forget_other p n = cond_cases (λ q. q ≡ p) (r_eq p dangling) (λ e. absurd (n e)) (λ _. refl)

-- what is not forgotten was not at *
forget_kept : (p : ℕ) → forget p ≢ nowhere → (p ≢ dangling) × (forget p ≡ p)
forget_kept p = cond_cases (λ q. q ≢ nowhere → (p ≢ dangling) × (q ≡ p)) (r_eq p dangling) (λ _ z. absurd (z refl)) (λ n z. (n, refl))

-- ---- the cases in their order: "The lowest such variable changes slowest, 'already' first"

pub cases_dangling : (c : ℕ) (ps : List ℕ)
    → vars_before c (dangling ∷ ps) ≡ map (λ qs. dangling ∷ qs) (vars_before c ps) ++ map (λ qs. c ∷ qs) (vars_before c ps)
cases_dangling c ps = ap (λ l. map (λ qs. dangling ∷ qs) (vars_before c ps) ++ l) (append-nil (map (λ qs. c ∷ qs) (vars_before c ps)))

pub cases_other : (c p : ℕ) (ps : List ℕ) → p ≢ dangling → vars_before c (p ∷ ps) ≡ map (λ qs. p ∷ qs) (vars_before c ps)
cases_other c p ps n =
    ap (concat_map (λ q. map (λ qs. q ∷ qs) (vars_before c ps))) (cond_false (eqb p dangling) _ _ (λ t. n ((r_eq p dangling).holds t)))
    ∙ append-nil (map (λ qs. p ∷ qs) (vars_before c ps))

-- ---- one case for all variables: `case i p` is where the one with index i, now at p, stood

chosen : (ℕ → ℕ → ℕ) → List ℕ → List ℕ
chosen case [] = []
chosen case (p ∷ ps) = case 0 p ∷ chosen (λ i. case (suc i)) ps

-- it is listed, if that of each variable is
chosen_listed : (c : ℕ) (case : ℕ → ℕ → ℕ) (l : List ℕ) → ((i p : ℕ) → case i p ∈ stood c p) → chosen case l ∈ vars_before c l
unfolding chosen
chosen_listed c case [] h = Memᴰ.head refl
chosen_listed c case (p ∷ ps) h =
    mem_concat_map (λ q. map (λ qs. q ∷ qs) (vars_before c ps)) (case 0 p ∷ chosen (λ i. case (suc i)) ps) (h 0 p)
    (Memᴰ.map (λ qs. case 0 p ∷ qs) (chosen_listed c (λ i. case (suc i)) ps (λ i. h (suc i))))

chosen_at : (case : ℕ → ℕ → ℕ) (l : List ℕ) (i : ℕ) → ((i : ℕ) → case i nowhere ≡ nowhere) → get_or (chosen case l) i nowhere ≡ case i (get_or l i nowhere)
unfolding chosen
chosen_at case [] i z = sym (z i)
chosen_at case (p ∷ ps) zero z = refl
chosen_at case (p ∷ ps) (suc i) z = chosen_at (λ i. case (suc i)) ps i (λ i. z (suc i))

pub step_delete : (h : Heap) (s : Shape) (f : ℕ → ℕ) → WellFormed (length s.vars) h → Closed (shape_graph s) → (a : ℕ) → a ≢ 0 → a ≤ length s.vars
    → IsCell h (h.var a) → Embeds (shape_graph s) (heap_graph (after (delete a) 0 h)) f → SatisfiesOne h (before (delete a) s)
step_delete h s f w cl a nz la l0 e = (t, listed, (f₁, record { images = e₁.images; vars = vars; paths = e₁.paths; facts = e₁.facts }))
  where
    -- the cell that goes, and the fresh cell of the shape, which stands for it
    y : ℕ
    y = h.var a

    k : ℕ
    k = fresh s

    f₁ : ℕ → ℕ
    f₁ = update f k y

    h' : Heap
    h' = after (delete a) 0 h

    w' : WellFormed (length s.vars) h'
    w' = after_formed (length s.vars) (delete a) 0 h (nz, la) w l0

    wp : Proper (heap_graph h')
    wp = heap_proper h' w'.low

    gone : h'.link y ≡ nowhere
    gone = update_same (λ c. dangled y (h.link c)) y nowhere y refl

    -- ---- cells and links, in graphs without variables: g₀ without the cell k, and g₁ with it, where a stands at k

    s₀ : Shape
    s₀ = forget_links s

    g₀ : Graph
    g₀ = record { Cell = (shape_graph s₀).Cell; link = link_at s₀; var = λ v. nowhere; fact = Follows s.facts }

    g₁ : Graph
    g₁ = record { Cell = (shape_graph (grow s₀)).Cell; link = link_at (grow s₀); var = update (λ v. nowhere) a k; fact = Follows s.facts }

    -- the links of s₀ are those of s that are not at *
    link₀ : (c : ℕ) → link_at s₀ c ≡ forget (link_at s c)
    link₀ = link_map forget (forget_other nowhere (omega arith)) s.links

    was_link : (c : ℕ) → link_at s₀ c ≢ nowhere → (link_at s c ≢ nowhere) × (link_at s c ≢ dangling) × (link_at s₀ c ≡ link_at s c)
    was_link c z = let (p, q) = forget_kept (link_at s c) (λ i. z (link₀ c ∙ i)) in let o = link₀ c ∙ q in (λ i. z (o ∙ i), p, o)

    same_size : size s₀ ≡ size s
    same_size = length-map s.links forget

    up : (c : ℕ) → (shape_graph s).Cell c → g₀.Cell c
    up c (i, j) = (i, omega (arith, same_size))

    back : (c : ℕ) → g₀.Cell c → (shape_graph s).Cell c
    back c (i, j) = (i, omega (arith, same_size))

    cl₀ : Closed g₀
    cl₀ =
        record {
          var_place = λ v z. absurd (z refl);
          link_place = λ c z.
              let (n, _, o) = was_link c z in
              subst (IsPlace g₀) (sym o) (λ i j. up (link_at s c) (cl.link_place c n i j));
          fact_cells = λ k p q i. let (m, n) = cl.fact_cells k p q i in (up p m, up q n);
        }

    -- only * goes to *
    not_dangling : (p : ℕ) → IsPlace (shape_graph s) p → p ≢ dangling → f p ≢ dangling
    not_dangling p i n z =
        n (distinct_places (shape_graph s) (heap_graph h') f wp e.images p dangling i (dangling_place (shape_graph s)) (z ∙ sym e.images.dangling_fixed))

    -- what is not at * after the delete, stood there before
    place_kept : (p : ℕ) → dangled y p ≢ dangling → dangled y p ≡ p
    place_kept p = update_cases (λ q. q ≢ dangling → q ≡ p) (λ q. q) y dangling p (λ _ z. absurd (z refl)) (λ _ _. refl)

    link_kept : (x : ℕ) → h'.link x ≢ nowhere → h'.link x ≢ dangling → h'.link x ≡ h.link x
    link_kept x =
        update_cases (λ q. q ≢ nowhere → q ≢ dangling → q ≡ h.link x) (λ c. dangled y (h.link c)) y nowhere x (λ _ z. absurd (z refl))
        (λ _ _. place_kept (h.link x))

    cell_kept : (x : ℕ) → IsCell h' x → IsCell h x
    cell_kept x =
        update_cases (λ q. q ≢ nowhere → IsCell h x) (λ c. dangled y (h.link c)) y nowhere x (λ _ z. absurd (z refl))
        (λ _ z i. z (ap (dangled y) i ∙ if_neg (ℕ_discrete nowhere y) (let q = w.low y l0 in omega arith) dangling nowhere))

    -- no step of a path whose end is not * goes to *
    step_kept : (c : ℕ) (n : link_at s c ≢ nowhere) → link_at s c ≢ dangling → (x : ℕ) → x ∈ (f c ∷ e.paths.between c) → h'.link x ≢ dangling
    step_kept c n n2 x m z = go (chain_step h'.link (f c) (e.paths.between c) (f (link_at s c)) (e.paths.path c n) x m)
      where
        go : (h'.link x ∈ e.paths.between c) ⊎ (h'.link x ≡ f (link_at s c)) → ⊥
        go (inl i) =
            place_off_path (shape_graph s) (heap_graph h') f wp cl e c n dangling (dangling_place (shape_graph s))
            (Memᴰ.cast (e.images.dangling_fixed ∙ sym z) i)
        go (inr i) = not_dangling (link_at s c) (cl.link_place c n) n2 (sym i ∙ z)

    e₀ : Embeds g₀ (heap_graph h) f
    e₀ =
        record {
          images = record {
            null_fixed = e.images.null_fixed;
            dangling_fixed = e.images.dangling_fixed;
            cells = λ c k. cell_kept (f c) (e.images.cells c (back c k));
            distinct = λ c d k l. e.images.distinct c d (back c k) (back d l);
          };
          vars = λ u z. absurd (z refl);
          paths = record {
            between = e.paths.between;
            path = λ c z.
                let (n, n2, o) = was_link c z in
                subst (λ (p : ℕ). Chain h.link (f c) (e.paths.between c) (f p)) (sym o)
                (chain_agree h'.link h.link (f c) (e.paths.between c) (f (link_at s c))
                (λ x m. link_kept x (path_linked (shape_graph s) (heap_graph h') f wp cl e c n x m) (step_kept c n n2 x m)) (e.paths.path c n));
            no_image = λ c x d z m k. e.paths.no_image c x d (was_link c z).0 m (back d k);
            unshared = λ c d x z z'. e.paths.unshared c d x (was_link c z).0 (was_link d z').0;
          };
          facts = λ k p q i. meets_kept h.value h'.value k (f p) (f q) (value_kept h.value y (f p)) (value_kept h.value y (f q)) (e.facts k p q i);
        }

    cells₁ : (c : ℕ) → g₁.Cell c → (c ≡ k) ⊎ g₀.Cell c
    cells₁ c (i, j) = go (ℕ_discrete c k)
      where
        go : Dec (c ≡ k) → (c ≡ k) ⊎ g₀.Cell c
        go (yes z) = inl z
        go (no n) = inr (i, omega (arith, same_size, length_snoc s₀.links nowhere))

    -- y is a cell of h, but no image and on no path
    e₁ : Embeds g₁ (heap_graph h) f₁
    e₁ =
        extend_unlinked g₀ g₁ (heap_graph h) f k y (record { low = λ c m. m.0; linked = (shape_proper s₀).linked }) (heap_proper h w.low) cl₀ e₀
        (λ (i, j). absurd (omega (arith, same_size))) (omega arith) cells₁ l0 (λ d m z. e.images.cells d (back d m) (ap h'.link z ∙ gone)) (λ _ _ _ i. i)
        (link_unlinked s₀.links)
        (λ c z m. path_linked (shape_graph s) (heap_graph h') f wp cl e c (was_link c z).0 y (Memᴰ.tail m) gone) a
        (update_same (λ v. nowhere) a k a refl) (λ u n. update_other (λ v. nowhere) a k u n) refl

    -- ---- variables: one that is now at * has the case of the deleted cell if it stood there in h, and else was at * already

    case : ℕ → ℕ → ℕ
    case i p = ite (ℕ_discrete p dangling) (ite (ℕ_discrete (h.var (suc i)) y) k dangling) p

    case_other : (i p : ℕ) → p ≢ dangling → case i p ≡ p
    case_other i p n = if_neg (ℕ_discrete p dangling) n _ p

    case_dangling : (i p : ℕ) → p ≡ dangling → case i p ≡ ite (ℕ_discrete (h.var (suc i)) y) k dangling
    case_dangling i p z = if_pos (ℕ_discrete p dangling) z _ p

    case_listed : (i p : ℕ) → case i p ∈ stood k p
    case_listed i p =
        cond_cases (λ l. case i p ∈ l) (r_eq p dangling)
        (λ z.
        subst (λ q. q ∈ (dangling ∷ k ∷ [])) (sym (case_dangling i p z))
        (update_cases (λ q. q ∈ (dangling ∷ k ∷ [])) (λ _. dangling) y k (h.var (suc i)) (λ _. Memᴰ.tail (Memᴰ.head refl)) (λ _. Memᴰ.head refl)))
        (λ n. Memᴰ.head (case_other i p n))

    -- the variables as predecessors takes them, a at the fresh cell, and then by their cases
    vars₁ : List ℕ
    vars₁ = set_var_in a k s.vars

    t : Shape
    t = with_vars (grow s₀) (chosen case vars₁)

    var_t : (i : ℕ) → var_at t (suc i) ≡ case i (var_in vars₁ (suc i))
    var_t i = chosen_at case vars₁ i (λ i. case_other i nowhere (omega arith))

    -- a is at * after the delete
    at_a : var_at s a ≢ nowhere → var_at s a ≡ dangling
    at_a i =
        distinct_places (shape_graph s) (heap_graph h') f wp e.images (var_at s a) dangling (cl.var_place a i) (dangling_place (shape_graph s))
        (sym (e.vars a i) ∙ if_pos (ℕ_discrete y y) refl dangling y ∙ sym e.images.dangling_fixed)

    listed : t ∈ before (delete a) s
    listed =
        subst (λ l. t ∈ l)
        (sym (cond_true (eqb (var_at s a) nowhere || eqb (var_at s a) dangling) _ _ ((r_or (r_eq (var_at s a) nowhere) (r_eq (var_at s a) dangling)).tests at_a)))
        (Memᴰ.map (with_vars (grow s₀)) (chosen_listed k case vars₁ case_listed))

    at_new : f₁ k ≡ y
    at_new = update_same f k y k refl

    at_place : (p : ℕ) → IsPlace (shape_graph s) p → f₁ p ≡ f p
    at_place p i = update_other f k y p (λ z. let (_, b) = i (omega arith) (omega arith) in absurd (omega arith))

    -- another variable than a, at p in s, stood in h where its case says
    stands : (i p : ℕ) → var_at s (suc i) ≡ p → case i p ≢ nowhere → h.var (suc i) ≡ f₁ (case i p)
    stands i p z n = go (ℕ_discrete p dangling)
      where
        now : var_at s (suc i) ≢ nowhere → dangled y (h.var (suc i)) ≡ f p
        now m = e.vars (suc i) m ∙ ap f z

        go : Dec (p ≡ dangling) → h.var (suc i) ≡ f₁ (case i p)
        go (yes d) =
            rw (case_dangling i p d)
            (update_cases (λ q. h.var (suc i) ≡ f₁ q) (λ _. dangling) y k (h.var (suc i)) (λ j. j ∙ sym at_new)
            (λ m.
            sym (if_neg (ℕ_discrete (h.var (suc i)) y) m dangling (h.var (suc i)))
            ∙ now (omega arith) ∙ ap f d ∙ sym (at_place dangling (dangling_place (shape_graph s)))))
        go (no d) =
            let q = case_other i p d in
            let m : var_at s (suc i) ≢ nowhere = λ j. n (q ∙ sym z ∙ j) in
            let pl : IsPlace (shape_graph s) p = rw z at (cl.var_place (suc i) m) in
            sym (place_kept (h.var (suc i)) (λ j. not_dangling p pl d (sym (now m) ∙ j))) ∙ now m ∙ sym (at_place p pl) ∙ ap f₁ (sym q)

    vars : (u : ℕ) → var_at t u ≢ nowhere → h.var u ≡ f₁ (var_at t u)
    vars zero z = w.null_fixed ∙ sym e₁.images.null_fixed
    vars (suc i) z = rw (var_t i) (go (ℕ_discrete (suc i) a))
      where
        go : Dec (suc i ≡ a) → h.var (suc i) ≡ f₁ (case i (var_in vars₁ (suc i)))
        go (yes o) =
            let q : var_in vars₁ (suc i) ≡ k = ap (var_in vars₁) o ∙ var_set_same a k s.vars nz la in
            ap h.var o ∙ sym at_new ∙ ap f₁ (sym (ap (case i) q ∙ case_other i k (omega arith)))
        go (no o) = stands i (var_in vars₁ (suc i)) (sym (var_set_other a k s.vars (suc i) o)) (λ j. z (var_t i ∙ j))
