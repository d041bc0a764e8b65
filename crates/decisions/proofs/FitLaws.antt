-- A verdict that fits the log: what it comes to is what the rules make of its plan, and there is room for it. Assumes nothing.
use Rattle.std.specs.Prelude.{◌≡◌, ◌+◌, ◌-◌, ◌*◌, ◌≤◌, Ok, Err}
use Rattle.kit.specs.Names.{refl, ap, sym, ◌∙◌, Bool, true, false, cond, List, [], ℕ, length, length-append, eqb, ltb, arith, le-ltb, ne_eqb, ltb-false}
use Rattle.rules.specs.Rules.{Head, LOG-FULL, ENTRY, Rows, Log, Table, entries, refusal, Write, memory, memory_of, with_memory, full, puts, plan, outcome}
use Rattle.rules.specs.Rules.{refuse, refused, carry, code_of, sizes_of, bad}
use Rattle.rules.proofs.StateLaws.{Good, bad_good}
use Rattle.parts.specs.Bounds.{Even}
use Rattle.plans.specs.declared.verdict.Finish.{Finish}
use Rattle.plans.specs.declared.verdict.Planned.{Planned}
use Rattle.rules.specs.declared.refusal.Refusal.TheVariants.{LogFull}
use Rattle.plans.specs.Plans.{Verdict, finish_of, and_then, plan_of, Inside, lacks, fitted}
use Rattle.plans.proofs.PlanLaws.{and_then_lem}
use Rattle.parts.specs.Ready.{Ready}
use Rattle.decisions.specs.Decided.{carried_out}

-- ---- what it comes to

either_false : (b : Bool) → cond b false false ≡ false
either_false true = refl
either_false false = refl

pub nothing_fits : (o u room : ℕ) → lacks o u room 0 ≡ false
nothing_fits o u room = rw (le-ltb (room - u) 0 (omega arith)) (either_false (eqb o 0))

module _ (t : Table) (ws : List Write) where
  pub refused_is : (n : ℕ) → refused n t ≡ carry t (plan (refusal n) [])
  unfolding puts
  refused_is n = rw (nothing_fits t.state.«open» t.state.used (entries t.log))

  by_room : (b : Bool) (p : Planned)
      → carried_out t ws (cond b (Err LogFull) (Ok p)) ≡ refuse b LOG-FULL t (outcome p.answer (with_memory t (puts (memory_of t) (and_then ws p.finish))))
  by_room true p = refl
  by_room false p = refl

  writes_length : (f : Finish) → length ws + length (finish_of f) ≡ length (and_then ws f)
  writes_length f = sym (ap length (and_then_lem ws f) ∙ length-append ws (finish_of f))

  pub fitted_is : (n : ℕ) → n ≡ length ws → (v : Verdict)
      → carried_out t ws (fitted t.state.«open» t.state.used (entries t.log) n v) ≡ carry t (plan_of ws v)
  fitted_is n q (Err why) = refused_is (code_of why)
  fitted_is n q (Ok p) =
      let a = p.answer in
      let f = p.finish in
      by_room (lacks t.state.«open» t.state.used (entries t.log) (n + length (finish_of f))) p
      ∙ ap (λ (k : ℕ). refuse (full (memory_of t) k) LOG-FULL t (outcome a (with_memory t (puts (memory_of t) (and_then ws f)))))
      (ap (λ (k : ℕ). k + length (finish_of f)) q ∙ writes_length f)

-- ---- there is room for it

-- A verdict that plans something has room for it.
abbrev pub Fits : ℕ → ℕ → ℕ → ℕ → Verdict → Type 0
Fits o u room n (Err why) = Unit {0}
Fits o u room n (Ok p) = lacks o u room (n + length (finish_of p.finish)) ≡ false

pub fits : (o u room n : ℕ) (v : Verdict) → Fits o u room n (fitted o u room n v)
fits o u room n (Err why) = tt
fits o u room n (Ok p) = go (lacks o u room (n + length (finish_of p.finish))) refl
  where
    go : (b : Bool) → lacks o u room (n + length (finish_of p.finish)) ≡ b → Fits o u room n (cond b (Err LogFull) (Ok p))
    go true e = tt
    go false e = e

pub inside_fitted : (count o u room n : ℕ) (v : Verdict) → Inside count v → Inside count (fitted o u room n v)
inside_fitted count o u room n (Err why) i = tt
inside_fitted count o u room n (Ok p) i = go (lacks o u room (n + length (finish_of p.finish)))
  where
    go : (b : Bool) → Inside count (cond b (Err LogFull) (Ok p))
    go true = tt
    go false = i

-- ---- what a table that is not bad is ready for

module _ (rs : Rows) (l : Log) (h : Head) (g : bad (sizes_of rs l) h ≡ false) where
  pub good : Good (sizes_of rs l) h
  good = bad_good (sizes_of rs l) h g

  pub good_even : Even h.count rs
  good_even = omega (arith, good)

  pub good_used : h.used ≤ entries l
  good_used = good.used

  -- n entries that are not lacking fit
  pub room_for : (n : ℕ) → lacks h.«open» h.used (entries l) n ≡ false → (h.«open» ≡ 0 → ⊥) → (h.used + n) * ENTRY ≤ length l
  room_for n q o =
      let f : ltb (entries l - h.used) n ≡ false = rw (ne_eqb h.«open» 0 o) at q in
      let k = ltb-false (entries l - h.used) n f in
      omega (arith, good.used, k)

  pub good_ready : (n : ℕ) → lacks h.«open» h.used (entries l) n ≡ false → Ready h.count n (memory rs l h.«open» h.used)
  good_ready n q = record { rows = good_even; limit = good.level.log; room = room_for n q }
