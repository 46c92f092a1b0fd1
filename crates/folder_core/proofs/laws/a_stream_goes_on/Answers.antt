use Rattle.folder_core.proofs.Streams.{alone_after, kept_of, new_started, still_new}
use Rattle.folder_core.proofs.laws.a_stream_goes_on.Goals as goal

pub returns-clause-told : goal.returns-clause-told
returns-clause-told c place entry before after new came = still_new place entry before after new came

pub returns-clause-started : goal.returns-clause-started
returns-clause-started c place key range before after new came = new_started place key range before after new came

pub returns-clause-alone : goal.returns-clause-alone
returns-clause-alone c place content before after new became = alone_after place content before after new became

pub returns-clause-kept : goal.returns-clause-kept
returns-clause-kept c place content before after taken taken' failures failures' became fresh new kept =
    kept_of place content before after taken taken' failures failures' became fresh new kept
