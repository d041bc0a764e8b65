-- Document 01's survivors are those of the stack, in every history that follows the tokens' rules.
use Rattle.std.specs.Prelude.{◌≡◌, ◌&&◌, ◌||◌, ◌∷◌, ◌++◌, ◌⊎◌, ◌≤◌, ◌<◌}
use Rattle.kit.specs.Names.{refl, sym, ap, ◌∙◌, Bool, true, false, cond, not, true≢false, List, [], map, inl, inr, ℕ, suc, eqb, arith, le_refl, eqb-true}
use Rattle.kit.specs.Names.{eq-eqb, ne_eqb}
use Rattle.rules.proofs.TestLaws.{either_way}
use Rattle.groups.specs.Groups.{Deed}
use Rattle.groups.specs.Track.{Event, History, is_done, Act, idle, moves, takes, undoes, closes, act, deed_of}
use Rattle.groups.specs.Track.{Saved, Track, dropped, restored, noted, track, newer, last_token, Innermost, Follows, Orderly}
use Rattle.groups.proofs.Tools.{cases, either}
use Rattle.history.specs.Survival.{without, opening, open_after, undoes_it, undone_in, any_of, is_rolled_back, survivors, deeds, surviving}

-- ---- the open tokens

abbrev tokens : List Saved → List ℕ
tokens xs = map (λ (x : Saved). x.token) xs

-- Each is below the one before it, the first below b.
abbrev Falls : ℕ → List Saved → Type 0
Falls b [] = Unit {0}
Falls b (x ∷ xs) = (x.token < b) × Falls x.token xs

falls_wide : (b b' : ℕ) (xs : List Saved) → b ≤ b' → Falls b xs → Falls b' xs
falls_wide b b' [] h f = tt
falls_wide b b' (x ∷ xs) h f = (omega (arith, f.0), f.1)

dropped_falls : (b : ℕ) (xs : List Saved) → Falls b xs → Falls b (dropped xs)
dropped_falls b [] f = tt
dropped_falls b (x ∷ xs) f = falls_wide x.token b xs (omega (arith, f.0)) f.1

falls_on : (a : Act) (t : ℕ) (g : Track) → Follows t g.saved a → Falls (suc t) g.saved
    → Falls (suc (newer t a)) (noted g a).saved
falls_on idle t g p f = f
falls_on (moves d) t g p f = f
falls_on (takes token) t g p f = (le_refl (suc token), falls_wide (suc t) token g.saved p f)
falls_on (undoes token) t g p f = dropped_falls (suc t) g.saved f
falls_on (closes token) t g p f = dropped_falls (suc t) g.saved f

falls : (h : History) → Orderly h → Falls (suc (last_token h)) (track h).saved
unfolding Orderly last_token track
falls [] o = tt
falls (e ∷ h) o = falls_on (act e) (last_token h) (track h) o.0 (falls h o.1)

without_falls : (token b : ℕ) (xs : List Saved) → b ≤ token → Falls b xs → without token (tokens xs) ≡ tokens xs
without_falls token b [] h f = refl
without_falls token b (x ∷ xs) h f =
    rw (ne_eqb x.token token (λ e. omega (arith, f.0)))
    (ap (λ (z : List ℕ). x.token ∷ z) (without_falls token x.token xs (omega (arith, f.0)) f.1))

-- The innermost token is dropped, and no other.
without_first : (token b : ℕ) (xs : List Saved) → Innermost token xs → Falls b xs → without token (tokens xs) ≡ tokens (dropped xs)
without_first token b [] p f = absurd p
without_first token b (x ∷ xs) p f = rw (eq-eqb x.token token p) (without_falls token x.token xs (omega arith) f.1)

opening_on : (a : Act) (t : ℕ) (g : Track) → Follows t g.saved a → Falls (suc t) g.saved
    → opening a (tokens g.saved) ≡ tokens (noted g a).saved
opening_on idle t g p f = refl
opening_on (moves d) t g p f = refl
opening_on (takes token) t g p f = refl
opening_on (undoes token) t g p f = without_first token (suc t) g.saved p f
opening_on (closes token) t g p f = without_first token (suc t) g.saved p f

open_tokens : (h : History) → Orderly h → open_after h ≡ tokens (track h).saved
unfolding Orderly track open_after
open_tokens [] o = refl
open_tokens (e ∷ h) o = ap (opening (act e)) (open_tokens h o.1) ∙ opening_on (act e) (last_token h) (track h) o.0 (falls h o.1)

-- ---- what is left once tokens are undone later: what was saved at the outermost of them that is open

abbrev chosen : (ℕ → Bool) → List Deed → List Saved → List Deed
chosen later now [] = now
chosen later now (x ∷ xs) = chosen later (cond (later x.token) x.deeds now) xs

chosen_miss : (later : ℕ → Bool) (now : List Deed) (xs : List Saved) → any_of later (tokens xs) ≡ false → chosen later now xs ≡ now
chosen_miss later now [] e = refl
chosen_miss later now (x ∷ xs) e =
    cases (later x.token)
    (λ q. absurd (true≢false (rw q at e)))
    (λ q. rw q (chosen_miss later now xs (rw q at e)))

chosen_hit : (later : ℕ → Bool) (now now' : List Deed) (xs : List Saved) → any_of later (tokens xs) ≡ true
    → chosen later now xs ≡ chosen later now' xs
chosen_hit later now now' [] e = absurd (true≢false (sym e))
chosen_hit later now now' (x ∷ xs) e = cases (later x.token) (λ q. rw q) (λ q. rw q (chosen_hit later now now' xs (rw q at e)))

-- A token above all that are open plays no part.
chosen_skip : (token : ℕ) (later : ℕ → Bool) (now : List Deed) (b : ℕ) (xs : List Saved) → b ≤ token → Falls b xs
    → chosen (λ t. eqb t token || later t) now xs ≡ chosen later now xs
chosen_skip token later now b [] h f = refl
chosen_skip token later now b (x ∷ xs) h f =
    rw (ne_eqb x.token token (λ e. omega (arith, f.0)))
    (chosen_skip token later (cond (later x.token) x.deeds now) x.token xs (omega (arith, f.0)) f.1)

-- ---- the tokens undone later are open now, or not taken yet

abbrev Due : (ℕ → Bool) → ℕ → List Saved → Type 0
Due later t xs = (u : ℕ) → later u ≡ true → (any_of (eqb u) (tokens xs) ≡ true) ⊎ (t < u)

one_of : {P : Type 0} (a b : Bool) → (a || b) ≡ true → (a ≡ true → P) → (b ≡ true → P) → P
one_of true b e f g = f refl
one_of false b e f g = g e

more : (a b : Bool) → b ≡ true → (a || b) ≡ true
more true b e = refl
more false b e = e

not_open : (u b : ℕ) (xs : List Saved) → b ≤ u → Falls b xs → any_of (eqb u) (tokens xs) ≡ false
not_open u b [] h f = refl
not_open u b (x ∷ xs) h f = rw (ne_eqb u x.token (λ e. omega (arith, f.0))) (not_open u x.token xs (omega (arith, f.0)) f.1)

-- An open token, after the innermost one is dropped, was open before.
due_dropped : (later : ℕ → Bool) (t : ℕ) (xs : List Saved) → Due later t (dropped xs) → Due later t xs
due_dropped later t [] d = d
due_dropped later t (x ∷ xs) d = λ u q. either (d u q) (λ m. inl (more (eqb u x.token) (any_of (eqb u) (tokens xs)) m)) (λ m. inr m)

due_on : (a : Act) (later : ℕ → Bool) (t : ℕ) (g : Track) → Follows t g.saved a → Due later (newer t a) (noted g a).saved
    → Due (λ u. undoes_it u a || later u) t g.saved
due_on idle later t g p d = d
due_on (moves d') later t g p d = d
due_on (takes token) later t g p d = λ u q. either (d u q)
    (λ m. one_of (eqb u token) (any_of (eqb u) (tokens g.saved)) m (λ z. inr (omega (arith, eqb-true u token z))) (λ z. inl z))
    (λ m. inr (omega arith))
due_on (undoes token) later t g p d = λ u q. one_of (eqb u token) (later u) q
    (λ z. inl (first g.saved p (eqb-true u token z)))
    (λ z. due_dropped later t g.saved d u z)
  where
    first : {u : ℕ} (xs : List Saved) → Innermost token xs → u ≡ token → any_of (eqb u) (tokens xs) ≡ true
    first [] i e = absurd i
    first {u} (x ∷ xs) i e = rw (eq-eqb u x.token (e ∙ sym i))
due_on (closes token) later t g p d = due_dropped later t g.saved d

-- ---- both accounts of one call

-- `old` is what is left of the calls before, once it is known what this one undoes.
agree_on : (a : Act) (later : ℕ → Bool) (t : ℕ) (g : Track) → Follows t g.saved a → Falls (suc t) g.saved
    → Due later (newer t a) (noted g a).saved
    → (old : List Deed) → old ≡ chosen (λ u. undoes_it u a || later u) g.now g.saved
    → cond (any_of later (tokens g.saved)) old (deed_of a ++ old) ≡ chosen later (noted g a).now (noted g a).saved
agree_on idle later t g p f d old e = either_way (any_of later (tokens g.saved)) old ∙ e
agree_on (moves x) later t g p f d old e =
    cases (any_of later (tokens g.saved))
    (λ q. rw q (e ∙ chosen_hit later g.now (x ∷ g.now) g.saved q))
    (λ q. rw (q, chosen_miss later (x ∷ g.now) g.saved q)
    (ap (λ (z : List Deed). x ∷ z) (e ∙ chosen_miss later g.now g.saved q)))
agree_on (takes token) later t g p f d old e =
    either_way (any_of later (tokens g.saved)) old ∙ e ∙ ap (λ (z : List Deed). chosen later z g.saved)
    (sym (either_way (later token) g.now))
agree_on (undoes token) later t g p f d old e =
    either_way (any_of later (tokens g.saved)) old ∙ e ∙ undone g.saved p f
  where
    undone : (xs : List Saved) → Innermost token xs → Falls (suc t) xs
        → chosen (λ u. eqb u token || later u) g.now xs ≡ chosen later (restored g.now xs) (dropped xs)
    undone [] i f = absurd i
    undone (x ∷ xs) i f = rw (eq-eqb x.token token i) (chosen_skip token later x.deeds x.token xs (omega arith) f.1)
agree_on (closes token) later t g p f d old e =
    either_way (any_of later (tokens g.saved)) old ∙ e ∙ closed g.saved p f d
  where
    closed : (xs : List Saved) → Innermost token xs → Falls (suc t) xs → Due later t (dropped xs)
        → chosen later g.now xs ≡ chosen later g.now (dropped xs)
    closed [] i f d = absurd i
    closed (x ∷ xs) i f d = cases (later x.token)
        (λ q. absurd (either (d x.token q)
        (λ m. true≢false (sym m ∙ not_open x.token x.token xs (omega arith) f.1))
        (λ m. omega (arith, f.0))))
        (λ q. rw q)

-- ---- and of a whole history

-- A call that is not rolled back leaves its deed; a refused one has none.
deeds_on : (b done : Bool) (e : Event) (rest : History) → is_done e ≡ done
    → deeds (cond (done && not b) (e ∷ rest) rest) ≡ cond b (deeds rest) (deed_of (act e) ++ deeds rest)
deeds_on true true e rest q = refl
deeds_on true false e rest q = refl
deeds_on false true e rest q = refl
deeds_on false false e rest q = rw q

survive_later : (h : History) → Orderly h → (later : History) → Due (undone_in later) (last_token h) (track h).saved
    → deeds (survivors later h) ≡ chosen (undone_in later) (track h).now (track h).saved
unfolding Orderly last_token track survivors undone_in
survive_later [] o later d = refl
survive_later (e ∷ h) o later d =
    deeds_on (is_rolled_back h later) (is_done e) e (survivors (e ∷ later) h) refl
    ∙ ap (λ (ts : List ℕ). cond (any_of (undone_in later) ts) (deeds (survivors (e ∷ later) h))
    (deed_of (act e) ++ deeds (survivors (e ∷ later) h))) (open_tokens h o.1)
    ∙ agree_on (act e) (undone_in later) (last_token h) (track h) o.0 (falls h o.1) d (deeds (survivors (e ∷ later) h))
    (survive_later h o.1 (e ∷ later) (due_on (act e) (undone_in later) (last_token h) (track h) o.0 d))

none_undone : (xs : List Saved) → any_of (undone_in []) (tokens xs) ≡ false
unfolding undone_in
none_undone [] = refl
none_undone (x ∷ xs) = none_undone xs

-- The creations, joins and posts that survive by 01's words are those of the stack.
pub surviving_is : (h : History) → Orderly h → surviving h ≡ (track h).now
unfolding undone_in
surviving_is h o =
    survive_later h o [] (λ u q. absurd (true≢false (sym q))) ∙ chosen_miss (undone_in []) (track h).now (track h).saved
    (none_undone (track h).saved)
