-- No two outcomes meet the contract of an exported function: what is returned and every lent list at exit are fixed. Assumes nothing.
use Rattle.std.specs.Prelude.{◌≡◌}
use Rattle.kit.specs.Names.{sym, ap, ◌∙◌, ℕ}
use Rattle.coding.specs.Coding.{Listed}
use Rattle.runs.specs.Served.{Host}
use Rattle.host.specs.Host.{Hosted, hosted, serve}

pub same_hosted : {o : Hosted} (r r' : ℕ) (x y : Host) → hosted r x ≡ o → hosted r' y ≡ o → (r ≡ r') × (x ≡ y)
same_hosted r r' x y e f = let q = e ∙ sym f in (ap (λ (o : Hosted). o.code) q, ap (λ (o : Hosted). o.host) q)

pub only_one : (h : Host) (l : Listed) (r r' : ℕ) (x y : Host) → hosted r x ≡ serve h l → hosted r' y ≡ serve h l → (r ≡ r') × (x ≡ y)
only_one h l r r' x y e f = same_hosted r r' x y e f
