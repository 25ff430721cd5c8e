pub mod ExportedCalls
