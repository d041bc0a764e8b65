-- Laws of a turn. Assumes nothing.
use Rattle.std.specs.Prelude.{◌≡◌}
use Rattle.kit.specs.Names.{refl, ap, sym, ◌∙◌, true, false, cond, List, ℕ}
use Rattle.rules.specs.Rules.{State, Rows, Log, Table, table}
use Rattle.commands.specs.declared.command.Command.{Command}
use Rattle.arrays.specs.declared.reply.Changed.{Changed}
use Rattle.arrays.specs.Cut.{holding, Left, left}
use Rattle.damage.specs.Commands.{changed}
use Rattle.reading.specs.declared.read.Reading.{Reading}
use Rattle.lines.specs.Lines.{line_command}
use Rattle.show.specs.Pieces.{Page, page, printing, Said}
use Rattle.say.specs.Reply.{said_pieces}
use Rattle.reading.specs.Taking.{filled, Took, took, taking, next_line}
use Rattle.meter.specs.Turn.{Replying, replying, answering, Turned, turned, turning}

-- ---- its answer

module _ (s : Reading) (t : State → Table) (b out : List ℕ) (at : ℕ) where
  after : Left → Page → Replying
  after c p = record { reading = next_line s (holding c.lengths c.table.state); table = c.table; page = p }

  said : Left → Page
  said c = printing out at (said_pieces c.lengths c.table c.reply s.line)

  pub answered : (command : Command) (c : Changed) (rs : Rows) (l : Log) (out' : List ℕ) (at' : ℕ) (r : Reading)
      → command ≡ line_command b s.kept.n s.kept.overlong → left c (table rs l) ≡ changed s.holding.lengths (t s.holding.state) command
      → Said out out' at (said_pieces c.holding.lengths (table rs l c.holding.state) c.reply s.line) at' → r ≡ next_line s c.holding
      → replying r (table rs l) (page out' at') ≡ answering s t b (page out at)
  unfolding after said
  answered command c rs l out' at' r m d p q =
      let x : replying r (table rs l) (page out' at') ≡ after (left c (table rs l)) (page out' at') = rw q in
      x
      ∙ ap {B = Replying} (λ (z : Page). after (left c (table rs l)) z) p.said
      ∙ ap {B = Replying} (λ (z : Left). after z (said z)) (d ∙ ap {B = Left} (λ (z : Command). changed s.holding.lengths (t s.holding.state) z) m)

-- ---- a turn

module _ (s : Reading) (t : State → Table) (b input : List ℕ) (p : Page) (f g : Reading) (b' : List ℕ) (e : f ≡ filled s f.count) (k : took g b' ≡ taking f b input) where
  whole : Took → Turned
  whole u =
      record { reply = cond u.reading.ended (answering u.reading t u.buffer p) (replying u.reading t p); buffer = u.buffer }

  counts : g.count ≡ f.count
  counts = ap (λ (u : Took). u.reading.count) k

  -- as it is taken of what is read
  same : (n : ℕ) → n ≡ g.count → took g b' ≡ taking (filled s n) b input
  same n h = k ∙ ap {B = Took} (λ (r : Reading). taking r b input) (e ∙ ap {B = Reading} (λ (i : ℕ). filled s i) (sym (h ∙ counts)))

  pub no_end : g.ended ≡ false → turned g t b' p ≡ turning s t b p input g.count
  unfolding whole
  no_end h =
      let x : turned g t b' p ≡ whole (took g b') = rw h in
      x ∙ ap {B = Turned} whole (same g.count refl)

  pub an_end : g.ended ≡ true → (r : Reading) (t' : State → Table) (p' : Page) → replying r t' p' ≡ answering g t b' p
      → turned r t' b' p' ≡ turning s t b p input r.count
  unfolding whole
  an_end h r t' p' a =
      let x : turned r t' b' p' ≡ whole (took g b') = rw (h, a) in
      x ∙ ap {B = Turned} whole (same r.count (ap (λ (q : Replying). q.reading.count) a))
