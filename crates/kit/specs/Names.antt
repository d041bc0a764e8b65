-- Names of the kit's libraries that definitions and proofs use, passed on under one name.
pub use Rattle.std.specs.Prelude.{refl, false, cond, true, Bool, not, ℕ, suc, zero, min, max, length, get_or, drop, take, set, replicate, eqb, ltb, leb}
pub use Rattle.std.proofs.Common.{◌∙◌, ap, sym, subst, ap₂, true≢false, append_assoc, inl, inr, ⊎_elim, zero-le, length-set, drop_of_length-le, length-take, length-drop, length-append, take-append-drop, lit<, drop-cons, get_or-set_other, get_or-set_same, get_or-take, length-take-le, take_all, drop-drop, get_or-drop, take-suc, drop-set-lt, set-set, take-suc-set, arith, add-one, le_refl, not-suc-le-zero, le_trans, mod-eq_of_lt, le-div_iff_mul-le, div-lt_iff_lt-mul, add-zero, pow-suc, mod-lt, lt_of_not-le, not-le_of_lt, le_of_suc-le-suc, le_of_eq, ne_eqb, eq-eqb, le-ltb, lt-ltb, eqb-true, le-leb, ltb-false, ltb-true, leb-true, leb-false, rules}
pub use Rattle.std.proofs.Math.Path.{subst⁻¹, fun_ext}
pub use Rattle.std.proofs.Math.Bool.{and-eq-true_iff}
pub use mathlib.Core.List.Memᴰ.{cases_cons as mem_cases_cons}
pub use mathlib.Core.List.Memᴰ.{head as mem_head}
pub use mathlib.Core.List.Memᴰ.{tail as mem_tail}
pub use mathlib.Core.List.{List, [], append-nil, map, Memᴰ}
pub use mathlib.Core.List.Memᴰ.{not-nil as mem_not_nil}
pub use Rattle.std.proofs.Math.ListN.{get_or-eq_default, get_or-map}
pub use Rattle.std.proofs.lemmas.List.{length-map, length-replicate, take-set-le, set_split, set-get_or, set_comm}
pub use Rattle.std.proofs.lemmas.List.Edits.{sets, take-paste, drop-paste, length-paste}
pub use Rattle.std.proofs.Math.Seq.{paste, set_out, drop-length, paste-zero, take-length, append_snoc, paste-suc, take-set-lt}
pub use denote.Ref.{Bor, MutBor, NamedLft}
pub use Rattle.std.proofs.Math.Decide.{ℕ_discrete, dec_lt, dec_le}
pub use Rattle.std.proofs.Math.Nat.{min-eq_right, le_step, add-mul-div_left, add-mul-mod_self_left, min-le_left, min-le_right, pow-le-pow_right, min-eq_left}
pub use Rattle.std.proofs.lemmas.Bool.{not-false, not-true, lt-leb, eqb-false}
