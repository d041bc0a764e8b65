-- What four numbers ask for, and what a list of them does. Assumes nothing.
use Rattle.std.specs.Prelude.{◌≡◌, ◌&&◌, ◌∷◌, ◌+◌, ◌-◌, ◌*◌, ◌/◌, ◌%◌, ◌≤◌, ◌<◌}
use Rattle.kit.specs.Names.{refl, sym, ap, ◌∙◌, Bool, true, false, cond, List, [], ℕ, zero, suc, length, get_or, drop, take, length-drop, drop-drop, get_or-take, get_or-drop, leb, ltb, drop-cons}
use Rattle.kit.specs.Names.{arith, dec_lt, add-one, ltb-true, leb-true, lt-ltb, le-ltb, le-leb, lt-leb}
use Rattle.std.specs.List.{list_all}
use Rattle.std.specs.Simd.{first_chunks}
use Rattle.std.proofs.lemmas.Bool.{and_parts}
use Rattle.rules.specs.Rules.{Call, WORD}
use Rattle.coding.specs.declared.coding.Form.{Form}
use Rattle.coding.specs.declared.coding.Limits.{Limits}
use Rattle.coding.specs.Coding.{UNUSED, SHORT, LONG, CODES, form_of, Formed, fits, Asked, nothing, asked, is_asked, asked_of, asked_at}
use Rattle.coding.specs.Coding.{Listed, unlisted, calls, then, call_list, is_listed, calls_in, call_in, call_at}

-- ---- one call

picked : (b : Bool) (c : Call) → is_asked (cond b (asked c) nothing) ≡ b
picked true c = refl
picked false c = refl

module _ (code a b c : ℕ) where
  pub is_asked_lem : is_asked (asked_of code a b c) ≡ ltb code CODES && fits (form_of code a b c).0 a b c
  unfolding asked_of
  is_asked_lem = let f = form_of code a b c in picked (ltb code CODES && fits f.0 a b c) f.1

  -- Where the code is known, its limits decide.
  pub is_fit : (f : Form) → code < CODES → Formed (form_of code a b c) a b c f → is_asked (asked_of code a b c) ≡ fits f.0 a b c
  is_fit f k q = is_asked_lem ∙ rw (lt-ltb code CODES k, q.most)

  module _ (e : is_asked (asked_of code a b c) ≡ true) where
    tests : (ltb code CODES ≡ true) × (fits (form_of code a b c).0 a b c ≡ true)
    tests = and_parts (ltb code CODES) (fits (form_of code a b c).0 a b c) (sym is_asked_lem ∙ e)

    pub known : code < CODES
    known = ltb-true code CODES tests.0

    -- Four numbers that are a call: the call that is made of them is what they ask for.
    pub made : {r : Form} → Formed (form_of code a b c) a b c r → r.1 ≡ call_in (asked_of code a b c)
    unfolding asked_of
    made f = f.call tests.1 ∙ rw (tests.0, tests.1)

-- A call that names a token takes any, and no other number.
token_limits : (k code a b c : ℕ) → code ≡ 10 + k → k < 5 → (form_of code a b c).0 ≡ (LONG, UNUSED, UNUSED)
token_limits zero code a b c e h = rw e
token_limits (suc zero) code a b c e h = rw e
token_limits (suc (suc zero)) code a b c e h = rw e
token_limits (suc (suc (suc zero))) code a b c e h = rw e
token_limits (suc (suc (suc (suc zero)))) code a b c e h = rw e
token_limits (suc (suc (suc (suc (suc k))))) code a b c e h = absurd (omega arith)

module _ (code a b c : ℕ) where
  pub no_code : CODES ≤ code → false ≡ is_asked (asked_of code a b c)
  no_code h = rw (is_asked_lem code a b c, le-ltb code CODES h)

  module _ (t : 10 ≤ code) (k : code < CODES) (h : a ≤ LONG) where
    token_fits : leb b UNUSED && leb c UNUSED ≡ is_asked (asked_of code a b c)
    token_fits =
        let l = token_limits (code - 10) code a b c (omega arith) (omega arith) in
        sym (is_asked_lem code a b c ∙ rw (lt-ltb code CODES k, l, le-leb a LONG h))

    pub more_than_token : UNUSED < b → false ≡ is_asked (asked_of code a b c)
    more_than_token m = sym (ap (λ (x : Bool). x && leb c UNUSED) (lt-leb b UNUSED m)) ∙ token_fits

    pub token_alone : b ≤ UNUSED → leb c UNUSED ≡ is_asked (asked_of code a b c)
    token_alone m = sym (ap (λ (x : Bool). x && leb c UNUSED) (le-leb b UNUSED m)) ∙ token_fits

-- A number that fits 32 bits is its own low word.
low : (x y : ℕ) → y ≤ SHORT → leb x y ≡ true → x % WORD ≡ x
low x y h e = let l = leb-true x y e in omega arith

module _ (a b c : ℕ) (m : Limits) where
  keys_fit : fits m a b c ≡ true → (leb a m.0 ≡ true) × (leb b m.1 ≡ true)
  keys_fit e = and_parts (leb a m.0) (leb b m.1) (and_parts (leb a m.0 && leb b m.1) (leb c m.2) e).0

  -- A call of no key, of one, and of two: keys are made of the low words.
  pub no_key : (x : Call) → Formed (m, x) a b c (m, x)
  no_key x = record { most = refl; call = λ e. refl }

  pub one_key : (f : ℕ → Call) → m.0 ≤ SHORT → Formed (m, f a) a b c (m, f (a % WORD))
  one_key f h = record { most = refl; call = λ e. ap f (low a m.0 h (keys_fit e).0) }

  pub two_keys : (f : ℕ → ℕ → Call) → m.0 ≤ SHORT → m.1 ≤ SHORT → Formed (m, f a b) a b c (m, f (a % WORD) (b % WORD))
  two_keys f h k =
      record { most = refl; call = λ e. let t = keys_fit e in rw (low a m.0 h t.0, low b m.1 k t.1) }

-- ---- a list

next : (l : List ℕ) (at to : ℕ) → at + 1 ≡ to → at < length l → drop at l ≡ get_or l at 0 ∷ drop to l
next l at to e h = drop-cons l at 0 h ∙ ap (λ (n : ℕ). get_or l at 0 ∷ drop n l) (sym (add-one at) ∙ e)

few : (l : List ℕ) → 0 < length l → length l < 4 → call_list l ≡ unlisted
unfolding call_list
few [] h k = absurd (omega arith)
few (a ∷ []) h k = refl
few (a ∷ b ∷ []) h k = refl
few (a ∷ b ∷ c ∷ []) h k = refl
few (a ∷ b ∷ c ∷ d ∷ l) h k = absurd (omega arith)

module _ (l : List ℕ) (at : ℕ) where
  short_list : at < length l → length l - at < 4 → is_listed (call_list (drop at l)) ≡ false
  short_list h k = ap is_listed (few (drop at l) (omega (arith, length-drop at l)) (omega (arith, length-drop at l)))

  module _ (h : at + 4 ≤ length l) where
    four : call_list (drop at l) ≡ then (asked_at l at) (call_list (drop (at + 4) l))
    unfolding call_list
    four =
        ap call_list
        (next l at (at + 1) refl (omega arith)
        ∙ ap (λ (r : List ℕ). get_or l at 0 ∷ r)
        (next l (at + 1) (at + 2) (omega arith) (omega arith)
        ∙ ap (λ (r : List ℕ). get_or l (at + 1) 0 ∷ r)
        (next l (at + 2) (at + 3) (omega arith) (omega arith)
        ∙ ap (λ (r : List ℕ). get_or l (at + 2) 0 ∷ r) (next l (at + 3) (at + 4) (omega arith) (omega arith)))))

-- Four numbers at a time: where they come out even, each four are a call.
abbrev whole : List (List ℕ) → Bool
whole fours = list_all (λ (call : List ℕ). is_asked (asked_at call 0)) fours

then_listed : (a : Asked) (l : Listed) → is_asked a && is_listed l ≡ is_listed (then a l)
then_listed nothing l = refl
then_listed (asked c) unlisted = refl
then_listed (asked c) (calls cs) = refl

then_none : (a : Asked) (l : Listed) → is_listed l ≡ false → is_listed (then a l) ≡ false
then_none nothing l e = refl
then_none (asked c) unlisted e = refl
then_none (asked c) (calls cs) e = absurd (let z : ◌≡◌ {A = ℕ} 0 1 = cc in omega arith)

fours : (k : ℕ) (l : List ℕ) → length l ≡ 4 * k → whole (first_chunks 4 k l) ≡ is_listed (call_list l)
unfolding call_list
fours zero [] e = refl
fours zero (a ∷ l) e = absurd (omega arith)
fours (suc k) [] e = absurd (omega arith)
fours (suc k) (a ∷ []) e = absurd (omega arith)
fours (suc k) (a ∷ b ∷ []) e = absurd (omega arith)
fours (suc k) (a ∷ b ∷ c ∷ []) e = absurd (omega arith)
fours (suc k) (a ∷ b ∷ c ∷ d ∷ l) e = ap (λ (x : Bool). is_asked (asked_of a b c d) && x) (fours k l (omega arith)) ∙ then_listed (asked_of a b c d) (call_list l)

left_over : (k : ℕ) (l : List ℕ) → 4 * k < length l → length l < 4 * k + 4 → false ≡ is_listed (call_list l)
unfolding call_list
left_over zero l h m = sym (ap is_listed (few l h m))
left_over (suc k) [] h m = absurd (omega arith)
left_over (suc k) (a ∷ []) h m = absurd (omega arith)
left_over (suc k) (a ∷ b ∷ []) h m = absurd (omega arith)
left_over (suc k) (a ∷ b ∷ c ∷ []) h m = absurd (omega arith)
left_over (suc k) (a ∷ b ∷ c ∷ d ∷ l) h m =
    sym (then_none (asked_of a b c d) (call_list l) (sym (left_over k l (omega arith) (omega arith))))

pub all_listed : (l : List ℕ) (cs : List (List ℕ)) → cs ≡ first_chunks 4 (length l / 4) l → length l % 4 ≡ 0 → whole cs ≡ is_listed (call_list l)
all_listed l cs q e = ap whole q ∙ fours (length l / 4) l (omega arith)

pub none_listed : (l : List ℕ) → 0 < length l % 4 → false ≡ is_listed (call_list l)
none_listed l h = left_over (length l / 4) l (omega arith) (omega arith)

-- Which four they are, and what they ask for.
four_at : (k i : ℕ) (l : List ℕ) → i < k → get_or (first_chunks 4 k l) i [] ≡ take 4 (drop (4 * i) l)
four_at zero i l h = absurd (omega arith)
four_at (suc k) zero l h = refl
four_at (suc k) (suc i) l h =
    let e : 4 + 4 * i ≡ 4 * suc i = omega arith in
    four_at k i (drop 4 l) (omega arith) ∙ ap (take 4) (drop-drop (4 * i) 4 l ∙ ap (λ (n : ℕ). drop n l) e)

module _ (l : List ℕ) (at : ℕ) where
  number_at : (j : ℕ) → j < 4 → get_or (take 4 (drop at l)) j 0 ≡ get_or l (at + j) 0
  number_at j h = get_or-take 4 (drop at l) j 0 h ∙ get_or-drop at l j 0

  asked_there : asked_at (take 4 (drop at l)) 0 ≡ asked_at l at
  asked_there =
      let e : at + 0 ≡ at = omega arith in
      rw (number_at 0 (omega arith), number_at 1 (omega arith), number_at 2 (omega arith), number_at 3 (omega arith), e)

pub asked_chunk : (k i : ℕ) (l : List ℕ) → i < k → asked_at (get_or (first_chunks 4 k l) i []) 0 ≡ asked_at l (4 * i)
asked_chunk k i l h = ap (λ (call : List ℕ). asked_at call 0) (four_at k i l h) ∙ asked_there l (4 * i)

-- A list that is one of calls begins with the call that stands there, and goes on as one.
pub record Next (l : List ℕ) (at : ℕ) : Type 0 where
  pub room : at + 4 ≤ length l
  pub asked_there : is_asked (asked_at l at) ≡ true
  pub calls : calls_in (call_list (drop at l)) ≡ call_at l at ∷ calls_in (call_list (drop (at + 4) l))
  pub goes_on : is_listed (call_list (drop (at + 4) l)) ≡ true

begins : (a : Asked) (l : Listed) → is_listed (then a l) ≡ true
    → (calls_in (then a l) ≡ call_in a ∷ calls_in l) × (is_listed l ≡ true) × (is_asked a ≡ true)
begins nothing l e = absurd (let z : ◌≡◌ {A = ℕ} 0 1 = cc in omega arith)
begins (asked c) unlisted e = absurd (let z : ◌≡◌ {A = ℕ} 0 1 = cc in omega arith)
begins (asked c) (calls cs) e = (refl, refl, refl)

pub next_call : (l : List ℕ) (at : ℕ) → at < length l → is_listed (call_list (drop at l)) ≡ true → Next l at
next_call l at h e =
    elim (dec_lt (length l - at) 4) [
      | yes k ↦ absurd (let f = short_list l at h k in let z : ◌≡◌ {A = ℕ} 0 1 = cc in omega arith)
      | no n ↦
          let r : at + 4 ≤ length l = omega arith in
          let b = begins (asked_at l at) (call_list (drop (at + 4) l)) (sym (ap is_listed (four l at r)) ∙ e) in
          record { room = r; asked_there = b.2; calls = ap calls_in (four l at r) ∙ b.0; goes_on = b.1 }
    ]

-- Four numbers to a call.
pub four_each : (l : List ℕ) → is_listed (call_list l) ≡ true → length l ≡ 4 * length (calls_in (call_list l))
unfolding call_list
four_each [] e = refl
four_each (a ∷ []) e = absurd (let z : ◌≡◌ {A = ℕ} 0 1 = cc in omega arith)
four_each (a ∷ b ∷ []) e = absurd (let z : ◌≡◌ {A = ℕ} 0 1 = cc in omega arith)
four_each (a ∷ b ∷ c ∷ []) e = absurd (let z : ◌≡◌ {A = ℕ} 0 1 = cc in omega arith)
four_each (a ∷ b ∷ c ∷ d ∷ l) e =
    let s = begins (asked_of a b c d) (call_list l) e in
    omega (arith, four_each l s.1, ap length s.0)
