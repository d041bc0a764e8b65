-- Roots and links: two keys have one root exactly when joins link them.
use Rattle.std.specs.Prelude.{◌≡◌, ◌∷◌, ◌↔◌, ◌⊎◌}
use Rattle.kit.specs.Names.{refl, sym, ap, ◌∙◌, subst, cond, [], Memᴰ, mem_head, mem_tail, mem_cases_cons, mem_not_nil, ℕ, eqb}
use Rattle.groups.specs.Groups.{shift}
use Rattle.groups.proofs.Tools.{by_same, either}
use Rattle.groups.proofs.SumLaws.{shift_hit, shift_miss}
use Rattle.history.specs.Account.{Pairs, Linked, same, join, flip, chain}

-- Each key is linked to its root, and joined keys have one root.
pub record Links (js : Pairs) (root : ℕ → ℕ) : Type 0 where
  pub reach : (x : ℕ) → Linked js x (root x)
  pub agree : (a b : ℕ) → Memᴰ (a, b) js → root a ≡ root b

linked_same : {js : Pairs} {root : ℕ → ℕ} → Links js root → {x y : ℕ} → Linked js x y → root x ≡ root y
linked_same {root = root} k (same e) = ap root e
linked_same k (join {a = a} {b = b} m) = k.agree a b m
linked_same k (flip l) = sym (linked_same k l)
linked_same k (chain l m) = linked_same k l ∙ linked_same k m

pub linked_iff : {js : Pairs} {root : ℕ → ℕ} → Links js root → (x y : ℕ) → (root x ≡ root y) ↔ Linked js x y
linked_iff {js} k x y = (λ e. chain (subst (λ (z : ℕ). Linked js x z) e (k.reach x)) (flip (k.reach y)), linked_same k)

weaken : {js : Pairs} (j : ℕ × ℕ) {x y : ℕ} → Linked js x y → Linked (j ∷ js) x y
weaken j (same e) = same e
weaken j (join m) = join (mem_tail m)
weaken j (flip l) = flip (weaken j l)
weaken j (chain l m) = chain (weaken j l) (weaken j m)

pub no_links : Links [] (λ i. i)
no_links = record { reach = λ x. same refl; agree = λ a b m. absurd (mem_not_nil m) }

module _ {js : Pairs} {root : ℕ → ℕ} (k : Links js root) (a b : ℕ) where
  -- The new pair's own case, and the older pairs'.
  agreeing : (f : ℕ → ℕ) → f a ≡ f b → ((x y : ℕ) → root x ≡ root y → f x ≡ f y) → (x y : ℕ) → Memᴰ (x, y) ((a, b) ∷ js)
      → f x ≡ f y
  agreeing f e g x y m =
      either (mem_cases_cons m)
      (λ q. ap (λ (z : ℕ × ℕ). f z.0) q ∙ e ∙ sym (ap (λ (z : ℕ × ℕ). f z.1) q))
      (λ q. g x y (k.agree x y q))

  -- A join of two keys that have one root already.
  pub links_same : root a ≡ root b → Links ((a, b) ∷ js) root
  links_same e = record { reach = λ x. weaken (a, b) (k.reach x); agree = agreeing root e (λ x y q. q) }

  -- The roots of the two are linked by the join.
  roots_linked : Linked ((a, b) ∷ js) (root a) (root b)
  roots_linked = chain (flip (weaken (a, b) (k.reach a))) (chain (join (mem_head refl)) (weaken (a, b) (k.reach b)))

  -- One of the two groups goes into the other.
  pub links_hung : (low high : ℕ) → ((low ≡ root a) × (high ≡ root b)) ⊎ ((low ≡ root b) × (high ≡ root a))
      → Links ((a, b) ∷ js) (shift root low high)
  links_hung low high w = record {
    reach = λ x. by_same (root x) low
        (λ e. rw (shift_hit root low high x e) (chain (rw e at (weaken (a, b) (k.reach x))) linked))
        (λ d. rw (shift_miss root low high x d) (weaken (a, b) (k.reach x)));
    agree = agreeing (shift root low high) (either w
        (λ q. shift_hit root low high a (sym q.0) ∙ sym (goes b (sym q.1)))
        (λ q. goes a (sym q.1) ∙ sym (shift_hit root low high b (sym q.0)))) (λ x y q. ap (λ (z : ℕ). cond (eqb z low) high z) q);
  }
    where
      linked : Linked ((a, b) ∷ js) low high
      linked = either w (λ q. rw (q.0, q.1) roots_linked) (λ q. rw (q.0, q.1) (flip roots_linked))

      -- A key whose root is `high` has it still.
      goes : (x : ℕ) → root x ≡ high → shift root low high x ≡ high
      goes x e = by_same (root x) low (λ q. shift_hit root low high x q) (λ d. shift_miss root low high x d ∙ e)
