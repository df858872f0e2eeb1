-- Numbers that are read from bytes begin with those of a job ahead of B, if the bytes do, and these tell the transitions.
use mathlib.Core.Bool.{Bool, true, false, cond}
use mathlib.Core.List.{List, [], ◌∷◌, ◌++◌, append_assoc}
use mathlib.Core.Path.{◌≡◌, refl, sym, ap, ap₂, ◌∙◌}
use Prim.Native.Nat.{ℕ, zero, suc, ◌+◌, ◌≤◌, ◌<◌}
use native.Mathlib.Omega.{arith}
use lib.Dec.{ltb, T}
use lib.ListN.{length, length-drop, drop}
use lib.Seq.{drop-drop}
use Rattle.lists.specs.List.{concat_map}
use Rattle.lists.proofs.Reflect.{r_lt}
use Rattle.number.specs.Number.{bytes_of, number_at, numeral}
use Rattle.number.specs.NumberList.{DecodedList, numbers, refused, with_number, followed, decode_from}
use Rattle.number.specs.Range.{AtMost}
use Rattle.number.proofs.RoundTrip.{reads, decode_more}
use Rattle.number.proofs.Writing.{one}
use Rattle.run.specs.Run.{Transition}
use Rattle.format.specs.JobNumbers.{transition_numbers}
use Rattle.forbidden.specs.Written.{refused}
use Rattle.listing.specs.LineByLine.{arrow_numbers}
use Rattle.listing.specs.Reading.{refused, op_of}
use Rattle.listing.specs.Text.{operation_for}
use Rattle.listing.proofs.Operations.{op_of_for}

-- ---- bytes below 128 are read as themselves

one_byte : (s : List ℕ) (at n : ℕ) (xs : List ℕ) → n ≤ 127 → drop at s ≡ n ∷ xs → number_at s at ≡ numeral n (at + 1)
one_byte s at n xs h e =
    let b : bytes_of n ≡ n ∷ [] = one n (omega arith) in
    reads s at n xs (omega arith) (e ∙ ap (λ l. l ++ xs) (sym b)) ∙ ap (λ (l : List ℕ). numeral n (at + length l)) b

-- without a turn nothing is read of bytes that are left
no_turn : (at : ℕ) (ms : List ℕ) (b : Bool) → T b → cond b (refused at) (numbers []) ≡ numbers ms → ⊥
no_turn at ms true t e = let q : ◌≡◌ {A = ℕ} 0 1 = cc in omega arith
no_turn at ms false t e = absurd t

pub begins_at : (ns : List ℕ) (turns at : ℕ) (s rest ms : List ℕ) → AtMost 127 ns → drop at s ≡ ns ++ rest → decode_from turns s at ≡ numbers ms
    → (more : List ℕ) × (ms ≡ ns ++ more)
unfolding decode_from
begins_at [] turns at s rest ms h e d = (ms, refl)
begins_at (n ∷ ns) zero at s rest ms h e d =
    let inside : at < length s = omega (arith, sym (length-drop at s) ∙ ap length e) in
    absurd (no_turn at ms (ltb at (length s)) ((r_lt at (length s)).tests inside) d)
begins_at (n ∷ ns) (suc turns) at s rest ms h e d =
    let inside : at < length s = omega (arith, sym (length-drop at s) ∙ ap length e) in
    go (decode_from turns s (at + 1)) refl
    (sym (decode_more turns s at inside ∙ ap (followed (decode_from turns s)) (one_byte s at n (ns ++ rest) h.0 e)) ∙ d)
    (λ ks. begins_at ns turns (at + 1) s rest ks h.1 (sym (drop-drop 1 at s) ∙ ap (drop 1) e))
  where
    go : (l : DecodedList) → decode_from turns s (at + 1) ≡ l → with_number n l ≡ numbers ms
        → ((ks : List ℕ) → decode_from turns s (at + 1) ≡ numbers ks → (more : List ℕ) × (ks ≡ ns ++ more)) → (more : List ℕ) × (ms ≡ n ∷ (ns ++ more))
    go (numbers ks) w v later =
        let (more, x) = later ks w in
        let y : ms ≡ n ∷ ks = cc in
        (more, y ∙ ap (λ l. n ∷ l) x)
    go (refused place) w v later = absurd (let q : ◌≡◌ {A = ℕ} 0 1 = cc in omega arith)

-- ---- transitions are told by their numbers

one_transition : (t u : Transition) (xs ys : List ℕ) → transition_numbers t ++ xs ≡ transition_numbers u ++ ys → (t ≡ u) × (xs ≡ ys)
one_transition t u xs ys e =
    let f = operation_for t.op in
    let g = operation_for u.op in
    let w : arrow_numbers t.from f t.to ++ xs ≡ arrow_numbers u.from g u.to ++ ys = e in
    let p : t.from ≡ u.from = cc in
    let k : f.kind ≡ g.kind = cc in
    let a : f.a ≡ g.a = cc in
    let b : f.b ≡ g.b = cc in
    let q : t.to ≡ u.to = cc in
    let o : t.op ≡ u.op = sym (op_of_for t.op) ∙ (λ i. op_of (record { kind = k i; a = a i; b = b i })) ∙ op_of_for u.op in
    let r : xs ≡ ys = cc in
    (λ i. record { from = p i; op = o i; to = q i }, r)

pub same_transitions : (ts us : List Transition) (xs ys : List ℕ) → length ts ≡ length us
    → concat_map transition_numbers ts ++ xs ≡ concat_map transition_numbers us ++ ys → ts ≡ us
same_transitions [] [] xs ys n e = refl
same_transitions [] (u ∷ us) xs ys n e = absurd (omega arith)
same_transitions (t ∷ ts) [] xs ys n e = absurd (omega arith)
same_transitions (t ∷ ts) (u ∷ us) xs ys n e =
    let (a, b) =
    one_transition t u (concat_map transition_numbers ts ++ xs) (concat_map transition_numbers us ++ ys)
    (sym (append_assoc (transition_numbers t) (concat_map transition_numbers ts) xs)
    ∙ e
    ∙ append_assoc (transition_numbers u) (concat_map transition_numbers us) ys)
    in
    ap₂ (λ x y. x ∷ y) a (same_transitions ts us xs ys (omega arith) b)
