-- Laws of numbers that are put into a part. Assumes nothing.
use Rattle.std.specs.Prelude.{◌≡◌, ◌∷◌, ◌++◌, ◌+◌, ◌-◌, ◌≤◌, ◌<◌}
use Rattle.kit.specs.Names.{refl, sym, List, [], ℕ, zero, suc, min, length, take, drop, set, replicate, length-take, length-replicate, length-set, take-append-drop, drop-drop, append_assoc, length-drop, take-set-lt, drop-set-lt}
use Rattle.kit.specs.Names.{set_out, sets, arith}
use Rattle.std.proofs.lemmas.List.{take-replicate}
use Rattle.std.proofs.lemmas.List.Edits.{sets-eq}
use borrow.Rule.Slice.PartMut.{put_mid}
use Rattle.arrays.specs.Room.{put_lent, overwritten}

module _ {A : Type 0} where
  -- past the end of a list nothing is written
  sets_out : (l : List A) (i : ℕ) (vs : List A) → length l ≤ i → sets l i vs ≡ l
  sets_out l i [] h = refl
  sets_out l i (v ∷ vs) h = rw (set_out l i v h) (sets_out l (suc i) vs (omega arith))

  -- what has no place is not written
  sets_cut : (l : List A) (i : ℕ) (vs : List A) (k : ℕ) → k ≡ min (length vs) (length l - i) → sets l i vs ≡ sets l i (take k vs)
  sets_cut l i [] k e = let z : k ≡ 0 = omega arith in rw z
  sets_cut l i (v ∷ vs) zero e = sets_out l i (v ∷ vs) (omega arith)
  sets_cut l i (v ∷ vs) (suc k) e = sets_cut (set l i v) (suc i) vs k (omega (arith, length-set {A = A}))

  -- a part with other numbers in its middle
  put_middle : (l : List A) (i : ℕ) (vs : List A) (m : ℕ) → length vs ≡ m → i + m ≤ length l → put_mid i m l vs ≡ sets l i vs
  put_middle l i vs m e h = rw (sets-eq vs l i (omega arith), drop-drop m i l, e) (sym (append_assoc (take i l) vs (drop (i + m) l)))

  -- what is put into the first numbers is put into them all
  sets_front : (l : List A) (n i : ℕ) (vs : List A) → i + length vs ≤ n → sets (take n l) i vs ++ drop n l ≡ sets l i vs
  sets_front l n i [] h = take-append-drop n l
  sets_front l n i (v ∷ vs) h = rw (take-set-lt n l i v (omega arith), drop-set-lt n l i v (omega arith)) at (sets_front (set l i v) n (suc i) vs (omega arith))

  pub put_past : (l : List A) (n i : ℕ) (vs : List A) → min (length l) n ≤ i → l ≡ put_lent n l i vs
  put_past l n i vs h = rw (sets_out (take n l) i vs (omega (arith, length-take n l))) (sym (take-append-drop n l))

  pub put_lent_at : (l : List A) (n i : ℕ) (vs new : List A) (k m : ℕ) → i < min (length l) n → k ≡ min (length vs) (min (length l) n - i) → m ≡ k → new ≡ take k vs
      → put_mid i m l new ≡ put_lent n l i vs
  put_lent_at l n i vs new k m h e q is =
      let cut : length (take k vs) ≡ k = omega (arith, length-take k vs) in
      let inner = sets_cut (take n l) i vs k (omega (arith, length-take n l)) in
      let middle = put_middle l i (take k vs) m (omega arith) (omega arith) in
      let front = sets_front l n i (take k vs) (omega arith) in
      rw (is, middle, inner) (sym front)

  pub overwritten_between : (l : List A) (from to start end : ℕ) (x : A) (new : List A) → end ≡ min (length l) to → start ≡ min end from
      → new ≡ replicate (length (take (end - start) (drop start l))) x → put_mid start (end - start) l new ≡ overwritten from to l x
  overwritten_between l from to start end x new e s is =
      let k = end - start in
      let part : length (take k (drop start l)) ≡ k = omega (arith, length-take k (drop start l), length-drop start l) in
      let size : length (replicate k x) ≡ k = length-replicate k x in
      let middle = put_middle l start (replicate k x) k size (omega arith) in
      let cut = sets_cut l from (replicate (to - from) x) k (omega (arith, length-replicate (to - from) x)) in
      let alike = take-replicate k (to - from) x (omega arith) in
      rw (is, part, middle, cut, alike) (at_start l start from k x (omega arith))
    where
      at_start : (l : List A) (start from k : ℕ) (x : A) → (0 < k → start ≡ from) → sets l start (replicate k x) ≡ sets l from (replicate k x)
      at_start l start from zero x h = refl
      at_start l start from (suc k) x h = let e : start ≡ from = h (omega arith) in rw e
