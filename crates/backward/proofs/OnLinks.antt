-- Operations that look at no value, kinds 1 to 7: before them a shape without facts had none.
use mathlib.Core.Bool.{Bool, true, false}
use mathlib.Core.List.Memᴰ
use mathlib.Core.List.{[]}
use mathlib.Core.Path.{◌≡◌, refl, ap, subst, ◌∙◌}
use lib.Dec.{T}
use Rattle.lists.specs.List.{◌∈◌, Every}
use Rattle.lists.proofs.List.{concat_map_mem, keep_mem}
use Rattle.heap.specs.Operation.{Op, equal, different, assign, load, store, new, delete, equal_value, below_value, copy, larger, smaller, read}
use Rattle.heap.specs.Place.{nowhere}
use Rattle.shape.specs.Placing.{set_var}
use Rattle.shape.specs.Shape.{Shape, var_at}
use Rattle.backward.specs.Predecessors.{is_new, remove_cell, before, predecessors, settle}
use Rattle.backward.proofs.Bare.{placed, behind, before_behind, placed_bare}
use Rattle.backward.proofs.Settle.{settle_none}

-- the operation looks at no value
abbrev pub on_links : Op → Bool
on_links (equal a b) = true
on_links (different a b) = true
on_links (assign a b) = true
on_links (load a b) = true
on_links (store a b) = true
on_links (new a) = true
on_links (delete a) = true
on_links (equal_value a b) = false
on_links (below_value a b) = false
on_links (copy a b) = false
on_links (larger a b) = false
on_links (smaller a b) = false
on_links (read a) = false

abbrev pub OnLinks : Op → Type 0
OnLinks o = T (on_links o)

abbrev pub NoFacts : Shape → Type 0
NoFacts s = s.facts ≡ []

-- what comes behind the placing
behind_none : (o : Op) (v : Shape) → OnLinks o → NoFacts v → Every NoFacts (behind o v)
behind_none (new a) v k e t m =
    let (_, is) = keep_mem (is_new a (var_at v a) v) (remove_cell (var_at v a) (set_var a nowhere v)) t m in
    ap (λ (w : Shape). w.facts) is ∙ rw e refl
behind_none (equal a b) v k e t m = rw (Memᴰ.eq_of_singleton m) e
behind_none (different a b) v k e t m = rw (Memᴰ.eq_of_singleton m) e
behind_none (assign a b) v k e t m = rw (Memᴰ.eq_of_singleton m) e
behind_none (load a b) v k e t m = rw (Memᴰ.eq_of_singleton m) e
behind_none (store a b) v k e t m = rw (Memᴰ.eq_of_singleton m) e
behind_none (delete a) v k e t m = rw (Memᴰ.eq_of_singleton m) e
behind_none (equal_value a b) v k e t m = absurd k
behind_none (below_value a b) v k e t m = absurd k
behind_none (copy a b) v k e t m = absurd k
behind_none (larger a b) v k e t m = absurd k
behind_none (smaller a b) v k e t m = absurd k
behind_none (read a) v k e t m = absurd k

before_none : (o : Op) (s : Shape) → OnLinks o → NoFacts s → Every NoFacts (before o s)
before_none o s k e t m =
    let (v, i, j) = concat_map_mem (behind o) (placed o s) t (subst (λ l. t ∈ l) (before_behind o s) m) in
    let bare : s ≡ record { vars = s.vars; links = s.links; facts = [] } = λ z. record { vars = s.vars; links = s.links; facts = e z } in
    behind_none o v k (placed_bare o s v (subst (λ u. v ∈ placed o u) bare i)).0 t j

pub predecessors_none : (o : Op) (s : Shape) → OnLinks o → NoFacts s → Every NoFacts (predecessors o s)
predecessors_none o s k e t m =
    let bare : s ≡ record { vars = s.vars; links = s.links; facts = [] } = λ z. record { vars = s.vars; links = s.links; facts = e z } in
    let (u, i, j) = concat_map_mem (before o) (settle s) t m in
    let settled = ap settle bare ∙ settle_none s.vars s.links in
    let is = Memᴰ.eq_of_singleton (subst (λ l. u ∈ l) settled i) in
    before_none o u k (ap (λ (w : Shape). w.facts) is) t j
