-- The places of a service: opened, and cleared.
use Rattle.std.specs.Prelude.{ℕ, true, false}
use Rattle.policy.specs.Contract.{Tok}
use Rattle.policy.specs.Tables.{Tables, no_tok}
use Rattle.policy.specs.Draft.{put2}
use Rattle.geometry.specs.declared.Table.{Table}
use Rattle.geometry.specs.declared.Table.TheVariants.{Calls, Grants, Needs}
use Rattle.image.specs.Laid.{table_of, with_tok, with_table}
use Rattle.image.specs.Wrote.{without_service}

-- package j provides service k with tokens s
abbrev pub opened : ℕ → ℕ → Tok → Tables → Tables
opened j k s t = record {
  used = t.used;
  aid = t.aid;
  tok = put2 j k s t.tok;
  provides = put2 j k true t.provides;
  calls = t.calls;
  grants = t.grants;
  needs = t.needs;
  unmet = t.unmet;
  waiting = t.waiting;
}

-- ---- service k of package j has gone: its bits, its place among those provided, and all its places cleared
abbrev pub dropped_in : Table → ℕ → ℕ → Tables → Tables
dropped_in tb j k t = with_table tb (without_service tb j k (table_of tb t)) t

abbrev pub bits_without_service : ℕ → ℕ → Tables → Tables
bits_without_service j k t = dropped_in Needs j k (dropped_in Grants j k (dropped_in Calls j k t))

abbrev pub closed : ℕ → ℕ → Tables → Tables
closed j k t = record {
  used = t.used;
  aid = t.aid;
  tok = t.tok;
  provides = put2 j k false t.provides;
  calls = t.calls;
  grants = t.grants;
  needs = t.needs;
  unmet = t.unmet;
  waiting = t.waiting;
}

abbrev pub tables_without_service : ℕ → ℕ → Tables → Tables
tables_without_service j k t = closed j k (with_tok j k no_tok (bits_without_service j k t))
