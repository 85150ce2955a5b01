mod HeldLaws
mod Growing
mod Exports
mod JournalLaws
mod PacketLaws
mod AddedLaws
mod Answering
