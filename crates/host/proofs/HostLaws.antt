-- What the tests come to is what the exported functions leave. Assumes nothing.
use Rattle.std.specs.Prelude.{◌≡◌, ◌*◌}
use Rattle.kit.specs.Names.{refl, sym, ap, ◌∙◌, Bool, true, false, cond, List, ℕ, length, ltb, arith, eq-eqb, ne_eqb}
use Rattle.coding.specs.Coding.{Listed, unlisted, calls, call_list, single, calls_in}
use Rattle.admit.specs.Admit.{CARRIED-OUT, NO-STATE, NO-ANSWERS, hearing, admission}
use Rattle.admit.proofs.AdmitLaws.{never_out}
use Rattle.runs.specs.Served.{Host, served}
use Rattle.host.specs.Host.{Hosted, hosted, refuse_host, stateless, heard, serve}

-- ---- each end

-- Whether there is room.
abbrev room_code : Bool → ℕ
room_code b = cond b NO-ANSWERS CARRIED-OUT

module _ (h : Host) where
  away_full : (b : Bool) (x : Hosted) → (room_code b ≡ CARRIED-OUT → ⊥) → hosted (room_code b) h ≡ refuse_host b NO-ANSWERS h x
  away_full true x d = refl
  away_full false x d = absurd (d refl)

  out_roomy : (b : Bool) (x : Hosted) → room_code b ≡ CARRIED-OUT → x ≡ refuse_host b NO-ANSWERS h x
  out_roomy true x e = absurd (omega arith)
  out_roomy false x e = refl

-- Whether the state's numbers are there.
abbrev code : Bool → Host → Listed → ℕ
code b h l = cond b NO-STATE (hearing l (length h.answers))

away : (b : Bool) (h : Host) (l : Listed) → (code b h l ≡ CARRIED-OUT → ⊥) → hosted (code b h l) h ≡ refuse_host b NO-STATE h (heard h l)
away true h l d = refl
away false h unlisted d = refl
away false h (calls cs) d = away_full h (ltb (length h.answers) (9 * length cs)) (hosted CARRIED-OUT (served h cs)) d

out : (b : Bool) (h : Host) (l : Listed) → code b h l ≡ CARRIED-OUT → hosted CARRIED-OUT (served h (calls_in l)) ≡ refuse_host b NO-STATE h (heard h l)
out true h l e = absurd (omega arith)
out false h unlisted e = absurd (omega arith)
out false h (calls cs) e = out_roomy h (ltb (length h.answers) (9 * length cs)) (hosted CARRIED-OUT (served h cs)) e

-- The number that the tests come to.
abbrev pub code_of : Host → Listed → ℕ
code_of h l = admission (length h.numbers) (length h.serials) l (length h.answers)

module _ (h : Host) (l : Listed) (n : ℕ) (q : n ≡ code_of h l) where
  pub turned_away_lem : (n ≡ CARRIED-OUT → ⊥) → hosted n h ≡ serve h l
  unfolding admission serve
  turned_away_lem d = ap (λ (x : ℕ). hosted x h) q ∙ away (stateless h) h l (λ e. d (q ∙ e))

  pub carried_out_lem : (h' : Host) → n ≡ CARRIED-OUT → h' ≡ served h (calls_in l) → hosted n h' ≡ serve h l
  unfolding admission serve
  carried_out_lem h' e w = rw (e, w) (out (stateless h) h l (sym q ∙ e))

-- ---- the list of a single call

module _ (h : Host) (ns : List ℕ) (n : ℕ) where
  pub as_single : (h' : Host) → length ns ≡ 4 → hosted n h' ≡ serve h (call_list ns) → hosted n h' ≡ serve h (single ns)
  as_single h' q e = rw (eq-eqb (length ns) 4 q) e

  pub no_single : (length ns ≡ 4 → ⊥) → ((a : ℕ) → n ≡ admission (length h.numbers) (length h.serials) unlisted a) → hosted n h ≡ serve h (single ns)
  no_single d f =
      let a = length h.answers in
      rw (ne_eqb (length ns) 4 d) (turned_away_lem h unlisted n (f a) (λ e. never_out (length h.numbers) (length h.serials) a (sym (f a) ∙ e)))
